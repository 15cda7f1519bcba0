use Rattle.std.proofs.Common.{◌≡◌, ℕ, ◌+◌, ◌≤◌, true}
use Rattle.conflicts.specs.Graphs.{edge_count}
use Rattle.graph_tests.proofs.survey.fill.Given as goal

abbrev pub invariant-loop-a : goal.invariant-loop-a
invariant-loop-a g l = record {
  within : l.taken ≤ l.a-index;
  kept : (x y : ℕ) → g.G.ConflictGraph.adjacent l.initial.graph x y ≡ true → g.G.ConflictGraph.adjacent l.graph x y ≡ true;
  counted : edge_count (g.G.ConflictGraph.adjacent l.graph) ≡ edge_count (g.G.ConflictGraph.adjacent l.initial.graph) + l.taken;
  fixed : g.G.ConflictGraph.limit l.graph ≡ g.G.ConflictGraph.limit l.initial.graph;
  frame : g.G.ConflictGraph.framed l.initial.graph l.graph;
}
