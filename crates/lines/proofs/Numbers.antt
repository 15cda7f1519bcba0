-- Digits read from the left, after a number that was read before them.
use Rattle.std.proofs.Common.{◌≡◌, ℕ, ◌-◌, ◌≤◌, if◌then◌else◌, List, Some, None, Option, arith}
use Rattle.std.proofs.lemmas.Bool.Decides.{nat_tests}
use Rattle.std.specs.Str.Parse.{digits_value_after}
use Rattle.std.specs.Char.{digit_value}
use Rattle.std.specs.Str.{all_ascii_digits}

-- the number that the digits make, unless another byte is among them
abbrev pub reads_on : ℕ → List ℕ → Option ℕ
reads_on n ds = if all_ascii_digits ds then Some (digits_value_after 10 n ds) else None

-- what a digit counts
digit_value_lem : (c : ℕ) → 48 ≤ c → c ≤ 57 → digit_value c ≡ c - 48
digit_value_lem c low high = grind (arith, nat_tests)
