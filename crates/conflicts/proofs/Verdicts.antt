-- Of a pair that stands.
use Rattle.std.proofs.Common.{◌≡◌, ◌≢◌, ℕ, true, false, arith}
use Rattle.conflicts.specs.Graphs.{Graph}

-- its ends differ
pub neighbour_other : (g : Graph) (a b : ℕ) → ((x : ℕ) → g x x ≡ false) → g a b ≡ true → a ≢ b
neighbour_other g a b none on e = grind (arith, none a)
