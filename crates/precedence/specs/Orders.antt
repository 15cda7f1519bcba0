-- The orders of the rules: which of two lifts stands before the other.
use Rattle.std.specs.Prelude.{ℕ, Bool, ◌&&◌, ◌||◌, List, ◌==◌, nat_lt, slice_index}
use Rattle.lifts.specs.declared.lift.Lift.{Lift}

abbrev pub by_number : Lift → Lift → Bool
by_number r s = nat_lt r.number.value s.number.value

-- a smaller key first, then the smaller number
abbrev pub keyed : (Lift → ℕ) → Lift → Lift → Bool
keyed key r s = nat_lt (key r) (key s) || (key r == key s && by_number r s)

abbrev pub by_due : Lift → Lift → Bool
by_due = keyed (λ r. r.due)

-- the rank of a lift's class
abbrev pub rank_in : List ℕ → Lift → ℕ
rank_in ranks r = slice_index ranks r.class

abbrev pub by_class : List ℕ → Lift → Lift → Bool
by_class ranks = keyed (rank_in ranks)
