use Rattle.std.proofs.Common.{◌≡◌, ◌-◌, ◌≤◌}
use Rattle.conflicts.specs.Counting.{count}
use Rattle.graph_tests.proofs.survey.walk.Given as goal

abbrev pub invariant-loop-b : goal.invariant-loop-b
invariant-loop-b g l = (l.from ≤ 512) × (l.count ≡ count (g.G.ConflictGraph.adjacent l.graph l.a) l.from)

abbrev pub decreases-loop-b : goal.decreases-loop-b
decreases-loop-b g l = 512 - l.from
