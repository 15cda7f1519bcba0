-- The ghost fields of the lists as one whole, and back.
use Rattle.std.proofs.Common.{◌≡◌, ℕ, ◌+◌, ◌*◌, ◌≤◌, arith}
use Rattle.conflicts.specs.Graphs.{Bounded, Loopless, Symmetric, edge_count}
use Rattle.cell_lists.specs.declared.lists.CellLists.{CellLists}
use Rattle.cell_lists.specs.Chains.{Degrees, Disjoint, Inside, Ranged, Single, View, holds}
use Rattle.cell_lists.specs.Memory.{view}
use Rattle.cell_lists.proofs.Standing.{holds_bounded}
use Rattle.cell_lists.proofs.Whole.{Whole}

pub whole_of : (l : CellLists) → Whole (view l.memory) (2 * l.capacity) l.pairs
whole_of l = record {
  ranged = l.ranged;
  disjoint = l.disjoint;
  inside = l.inside;
  single = l.single;
  symmetric = l.symmetric;
  loopless = l.loopless;
  degrees = l.degrees;
  free = l.free;
  counted = l.counted;
}

-- the ghost fields by their names, in their order
abbrev pub Fields : View → ℕ → ℕ → ℕ → Type 0
Fields v cells pairs capacity = record {
  long : 2 * capacity ≤ cells;
  most : capacity ≤ 130816;
  ranged : Ranged v (2 * capacity);
  disjoint : Disjoint v;
  inside : Inside v;
  single : Single v;
  symmetric : Symmetric (holds v);
  loopless : Loopless (holds v);
  bounded : Bounded (holds v);
  degrees : Degrees v;
  free : v.count 512 + 2 * pairs ≡ 2 * capacity;
  counted : pairs ≡ edge_count (holds v);
  fitting : edge_count (holds v) ≤ capacity;
}

pub fields_of : (v : View) (cells pairs capacity : ℕ) → 2 * capacity ≤ cells → capacity ≤ 130816 → Whole v (2 * capacity) pairs → Fields v cells pairs capacity
fields_of v cells pairs capacity long most wh =
    let fr = wh.free in
    let co = wh.counted in record {
      long = long;
      most = most;
      ranged = wh.ranged;
      disjoint = wh.disjoint;
      inside = wh.inside;
      single = wh.single;
      symmetric = wh.symmetric;
      loopless = wh.loopless;
      bounded = holds_bounded v;
      degrees = wh.degrees;
      free = fr;
      counted = co;
      fitting = omega arith;
    }
