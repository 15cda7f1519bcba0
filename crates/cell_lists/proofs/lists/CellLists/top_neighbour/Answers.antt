use Rattle.std.proofs.Common.{sym, ◌∙◌, arith}
use Rattle.cell_lists.proofs.Walks.{none_stand, top_stands}
use Rattle.cell_lists.proofs.lists.CellLists.top_neighbour.Goals as goal

pub returns-in_err-neighbour-clause-none : goal.returns-in_err-neighbour-clause-none
returns-in_err-neighbour-clause-none c =
    rw c.from_residual.ensures (none_stand c.args.self.now.memory c.args.a.value (sym c.neighbours.ensures ∙ c.in_err-neighbour.ensures.steps.0))

pub returns : goal.returns
returns c =
    let l = c.args.self.now in
    let top = top_stands l.memory c.args.a.value c.in_ok-neighbour.field-0-0 c.in_ok-neighbour.neighbour _ c.new.result (omega (arith, c.args.a.in_range)) l.inside
    (sym c.neighbours.ensures ∙ c.in_ok-neighbour.ensures.steps) c.new.ensures in
    rw (c.ok.ensures.value, top.1) (record { found = top.2; none = tt })
