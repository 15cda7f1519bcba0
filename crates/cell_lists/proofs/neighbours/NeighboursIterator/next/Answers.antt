use Rattle.std.proofs.Common.{suc, arith}
use Rattle.cell_lists.proofs.Places.{along_shift, along_zero}
use Rattle.cell_lists.proofs.Walks.{stops_none, stops_some}
use Rattle.cell_lists.proofs.neighbours.NeighboursIterator.next.Goals as goal

pub returns-then-self-eq0-clause-steps : goal.returns-then-self-eq0-clause-steps
returns-then-self-eq0-clause-steps c =
    let s = c.args.self.now in
    let e = stops_none s.cells.now s.cell s.left (omega arith) in
    (e, e)

pub bounds-self-cell : goal.bounds-self-cell
bounds-self-cell c = let s = c.args.self.now in let l = s.stays 0 (omega arith) in omega (arith, along_zero)

pub invariant_of-self : goal.invariant_of-self
invariant_of-self c = record { stays = λ j l. let s = c.args.self.now in let e = s.stays (suc j) (omega arith) in omega (arith, along_shift) }

pub returns-clause-steps : goal.returns-clause-steps
returns-clause-steps c = let s = c.args.self.now in stops_some s.cells.now s.cell s.left (omega arith)
