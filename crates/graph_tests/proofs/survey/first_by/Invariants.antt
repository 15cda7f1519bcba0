use Rattle.std.proofs.Common.{◌≡◌, ℕ, ◌-◌, ◌<◌, ◌≤◌, true, false, MatchOption}
use Rattle.graph_tests.proofs.survey.first_by.Given as goal

-- The best so far is a neighbour; where there is none, no number below `from` is one.
abbrev pub invariant-loop-b : goal.invariant-loop-b
invariant-loop-b g l =
    (l.from ≤ 512)
    × MatchOption l.first
    ((x : ℕ) → x < l.from → g.G.ConflictGraph.adjacent l.graph l.a x ≡ false)
    (λ lift. g.G.ConflictGraph.adjacent l.graph l.a lift.number.value ≡ true)

abbrev pub decreases-loop-b : goal.decreases-loop-b
decreases-loop-b g l = 512 - l.from
