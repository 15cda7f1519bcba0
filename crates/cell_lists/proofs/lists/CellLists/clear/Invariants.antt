use Rattle.cell_lists.specs.Lists.{Framed, standing}
use Rattle.conflicts.proofs.Isolation.{Elsewhere}
use Rattle.cell_lists.proofs.lists.CellLists.clear.Given as goal

abbrev pub invariant-loop-b : goal.invariant-loop-b
invariant-loop-b l = Elsewhere (standing l.initial.self) l.a.value (standing l.self) × Framed l.initial.self l.self

abbrev pub decreases-loop-b : goal.decreases-loop-b
decreases-loop-b l = l.self.pairs
