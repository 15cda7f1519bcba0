use Rattle.std.proofs.Common.{◌*◌, refl, ◌∙◌, arith}
use Rattle.cell_lists.specs.Memory.{view}
use Rattle.cell_lists.proofs.Changes.{Parting, partable, part_beyond, part_done, part_fields, part_second}
use Rattle.cell_lists.proofs.Steps.{top_within}
use Rattle.cell_lists.proofs.lists.CellLists.part.Goals as goal
use Rattle.cell_lists.proofs.lists.CellLists.part.Goals.{After-cut-2}

both : (c : After-cut-2) → Parting c.args.self.now c.cut.new.self c.cut-2.new.self c.args.a.value c.args.b.value c.in-Some.first c.in-Some-find.second
both c = record {
  pair = partable c.args.self.now c.args.a c.args.b c.in-Some.first c.in-Some-find.second c.in-Some.ensures c.in-Some-find.ensures.1;
  first = c.cut.ensures.cut;
  second = c.cut-2.ensures.cut;
  first_kept = c.cut.ensures.kept;
  second_kept = c.cut-2.ensures.kept;
}

pub cut-requires-clause-top : goal.cut-requires-clause-top
cut-requires-clause-top c =
    let l = c.args.self.now in
    let within = c.in-Some.ensures.1.within in
    let top = top_within (view l.memory) (2 * l.capacity) c.args.a.value l.ranged (omega arith) in
    (omega arith, omega (arith, l.long))

pub cut-requires-2-clause-top : goal.cut-requires-2-clause-top
cut-requires-2-clause-top c =
    let l = c.args.self.now in
    let p = partable l c.args.a c.args.b c.in-Some.first c.in-Some-find.second c.in-Some.ensures c.in-Some-find.ensures.1 in
    let s = part_second (view c.cut.new.self) p c.cut.ensures.cut in
    let top = s.top in
    let kept = c.cut.ensures.kept.same_length in
    (s.some, omega (arith, l.long))

pub overflow_sub-pairs : goal.overflow_sub-pairs
overflow_sub-pairs c = (part_done (both (goal.at.overflow_sub-pairs c).After-cut-2)).some_pair

pub invariant_of-self : goal.invariant_of-self
invariant_of-self c = part_fields (both (goal.at.invariant_of-self c).After-cut-2)

pub returns-clause-after : goal.returns-clause-after
returns-clause-after c = (part_done (both (goal.at.returns-clause-after c).After-cut-2)).after

pub returns-clause-frame : goal.returns-clause-frame
returns-clause-frame c = record {
  same_cells = c.cut-2.ensures.kept.same_cells ∙ c.cut.ensures.kept.same_cells;
  same_capacity = refl;
  beyond = part_beyond (both (goal.at.returns-clause-frame c).After-cut-2);
}
