use Rattle.std.proofs.Common.{drop, length-take, arith}
use Rattle.cell_lists.proofs.Start.{unused}
use Rattle.cell_lists.proofs.chains.Memory.all_free.Goals as goal

pub returns-clause-unused : goal.returns-clause-unused
returns-clause-unused c = unused c.link.new.cells (drop c.args.free c.args.cells.now) c.args.free (omega (arith, length-take c.args.free c.args.cells.now)) c.link.ensures
