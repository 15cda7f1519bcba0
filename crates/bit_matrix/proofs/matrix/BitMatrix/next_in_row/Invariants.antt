use Rattle.std.proofs.Common.{◌≡◌, ℕ, ◌+◌, ◌*◌, ◌<◌, ◌≤◌, false}
use Rattle.bit_matrix.specs.Matrix.{marked}
use Rattle.bit_matrix.proofs.matrix.BitMatrix.next_in_row.Given as goal

-- There is no neighbour from `from` up to word k of the later ones.
abbrev pub invariant-loop-k : goal.invariant-loop-k
invariant-loop-k l = (q : ℕ) → l.from ≤ q → q < (l.start + 1 + l.k) * 64 → marked l.self.words.now l.fn.a.value q ≡ false
