-- Adjacency lists: the pairs that stand in their memory, and what of it is not theirs.
use Rattle.std.specs.Prelude.{◌≡◌, ◌*◌, drop, refl}
use Rattle.std.proofs.Common.{sym, ◌∙◌, ap}
use Rattle.conflicts.specs.Graphs.{Graph}
use Rattle.cell_lists.specs.declared.lists.CellLists.{CellLists}
use Rattle.cell_lists.specs.Chains.{holds}
use Rattle.cell_lists.specs.Memory.{view}

-- the pairs that stand
abbrev pub standing : CellLists → Graph
standing l = holds (view l.memory)

-- g stands on the cells of f, has its capacity, and the cells past twice the capacity are as they were
pub record Framed (f g : CellLists) : Type 0 where
  pub same_cells : g.memory.cells.ghost_name ≡ f.memory.cells.ghost_name
  pub same_capacity : g.capacity ≡ f.capacity
  pub beyond : drop (2 * f.capacity) g.memory.cells.now ≡ drop (2 * f.capacity) f.memory.cells.now

-- the frame holds where nothing has changed
pub framed_same : (l : CellLists) → Framed l l
framed_same l = record { same_cells = refl; same_capacity = refl; beyond = refl }

-- and over one change after another
pub framed_on : (f g h : CellLists) → Framed f g → Framed g h → Framed f h
framed_on f g h p q = record {
  same_cells = q.same_cells ∙ p.same_cells;
  same_capacity = q.same_capacity ∙ p.same_capacity;
  beyond =
      ap (λ n. drop (2 * n) h.memory.cells.now) (sym p.same_capacity)
      ∙ q.beyond
      ∙ ap (λ n. drop (2 * n) g.memory.cells.now) p.same_capacity
      ∙ p.beyond;
}
