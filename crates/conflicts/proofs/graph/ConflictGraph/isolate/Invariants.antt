use Rattle.std.proofs.Common.{◌≡◌, ℕ, ◌-◌, ◌<◌, ◌≤◌, false}
use Rattle.conflicts.proofs.Isolation.{Elsewhere}
use Rattle.conflicts.proofs.graph.ConflictGraph.isolate.Given as goal

-- Pairs of a have gone and no others, and a has no neighbour below `from`.
abbrev pub invariant-loop-b : goal.invariant-loop-b
invariant-loop-b g l = record {
  within : l.from ≤ 512;
  elsewhere : Elsewhere (g.Self.ConflictGraph.adjacent l.initial.self) l.a (g.Self.ConflictGraph.adjacent l.self);
  behind : (q : ℕ) → q < l.from → g.Self.ConflictGraph.adjacent l.self l.a q ≡ false;
  fixed : g.Self.ConflictGraph.limit l.self ≡ g.Self.ConflictGraph.limit l.initial.self;
  frame : g.Self.ConflictGraph.framed l.initial.self l.self;
  refused : 511 < l.a → l.self ≡ l.initial.self;
}

abbrev pub decreases-loop-b : goal.decreases-loop-b
decreases-loop-b g l = 512 - l.from
