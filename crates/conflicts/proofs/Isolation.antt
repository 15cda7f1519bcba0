-- Removing the pairs of one number.
use Rattle.std.proofs.Common.{◌≡◌, ℕ, false}
use Rattle.conflicts.specs.Graphs.{Graph, touches}

-- the graphs e and f differ at no pair but those of a
abbrev pub Elsewhere : Graph → ℕ → Graph → Type 0
Elsewhere e a f = (x y : ℕ) → touches a x y ≡ false → f x y ≡ e x y
