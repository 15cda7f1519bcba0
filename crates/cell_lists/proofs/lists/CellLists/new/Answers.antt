use Rattle.std.proofs.Common.{◌*◌, length, arith}
use Rattle.cell_lists.specs.Memory.{view}
use Rattle.cell_lists.proofs.Start.{unused_empty, unused_whole}
use Rattle.cell_lists.proofs.Kept.{fields_of}
use Rattle.cell_lists.proofs.lists.CellLists.new.Goals as goal

pub invariant_of-result : goal.invariant_of-result
invariant_of-result c =
    let m = c.all_free.result in
    let capacity = c.pairs_in-capacity.result in
    fields_of (view m) (length m.cells.now) 0 capacity (omega arith) (omega arith) (unused_whole (view m) (2 * capacity) c.all_free.ensures.unused)

pub returns-clause-empty : goal.returns-clause-empty
returns-clause-empty c = unused_empty (view c.all_free.result) (2 * c.pairs_in-capacity.result) c.all_free.ensures.unused
