use Rattle.std.proofs.Common.{◌*◌, refl, ◌∙◌, arith}
use Rattle.cell_lists.specs.Memory.{view}
use Rattle.cell_lists.proofs.Changes.{Joinable, Joining, joinable, join_beyond, join_done, join_fields, join_second, two_free}
use Rattle.cell_lists.proofs.Steps.{count_small, top_within}
use Rattle.cell_lists.proofs.lists.CellLists.join.Goals as goal
use Rattle.cell_lists.proofs.lists.CellLists.join.Goals.{After-second-b, After-add-2}

pair : (c : After-second-b) → Joinable c.args.self.now c.first-a.result.value c.second-b.result.value
pair c = joinable c.args.self.now c.args.pair c.first-a.result c.second-b.result c.first-a.ensures c.second-b.ensures c.requires.missing c.requires.spare

both : (c : After-add-2) → Joining c.args.self.now c.add.new.self c.add-2.new.self c.first-a.result.value c.second-b.result.value
both c = record {
  pair = joinable c.args.self.now c.args.pair c.first-a.result c.second-b.result c.first-a.ensures c.second-b.ensures c.requires.missing c.requires.spare;
  first = c.add.ensures.added;
  second = c.add-2.ensures.added;
  first_kept = c.add.ensures.kept;
  second_kept = c.add-2.ensures.kept;
}

pub add-requires : goal.add-requires
add-requires c =
    let l = c.args.self.now in
    let a = c.first-a.result in
    let two = two_free l a.value c.second-b.result.value (pair (goal.at.add-requires c).After-second-b) in
    let top = top_within (view l.memory) (2 * l.capacity) 512 l.ranged (omega arith) in
    let small = count_small (view l.memory) a.value l.degrees (omega (arith, a.in_range)) in
    record { top = (omega arith, omega (arith, l.long)); room = omega arith }

pub add-requires-2 : goal.add-requires-2
add-requires-2 c =
    let l = c.args.self.now in
    let s = join_second (view c.add.new.self) (pair (goal.at.add-requires-2 c).After-second-b) c.add.ensures.added in
    let top = s.top in
    let small = s.small in
    let kept = c.add.ensures.kept.same_length in
    record { top = (s.some, omega (arith, l.long)); room = omega arith }

pub invariant_of-self : goal.invariant_of-self
invariant_of-self c = join_fields (both (goal.at.invariant_of-self c).After-add-2)

pub returns : goal.returns
returns c =
    let both = both (goal.at.returns c).After-add-2 in
    record {
      after = rw (← c.first-a.ensures, ← c.second-b.ensures) (join_done both).after;
      frame = record { same_cells = c.add-2.ensures.kept.same_cells ∙ c.add.ensures.kept.same_cells; same_capacity = refl; beyond = join_beyond both };
    }
