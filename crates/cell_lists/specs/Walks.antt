-- What a walk over a chain has before it.
use Rattle.std.specs.Prelude.{ℕ, List}
use Rattle.cell_lists.specs.declared.neighbours.Neighbours.{Neighbours}
use Rattle.cell_lists.specs.Memory.{stops}

abbrev pub ahead : Neighbours → List (ℕ × ℕ)
ahead s = stops s.cells.now s.cell s.left
