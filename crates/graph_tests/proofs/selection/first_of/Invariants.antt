use Rattle.std.proofs.Common.{◌≡◌, ℕ, ◌<◌, false, length, get_or}
use Rattle.lifts.specs.declared.lift.Lift.{Lift}
use Rattle.graph_tests.proofs.selection.first_of.Given as goal

-- None of the lifts so far stands before the first.
abbrev pub invariant-loop-i : goal.invariant-loop-i
invariant-loop-i g l =
    (l.first < length l.lifts)
    × ((k : ℕ) (d : Lift) → k < l.i → g.P.Precedence.earlier l.order (get_or l.lifts k d) (get_or l.lifts l.first d) ≡ false)
