use Rattle.std.proofs.Common.{◌≡◌, rules, tests, arith}
use Rattle.std.specs.Option.{option_map}
use Rattle.std.proofs.lemmas.Iterator.{first_from_find}
use Rattle.std.proofs.lemmas.Iterator.Consumers.{YieldsList-from_first}
use Rattle.cell_lists.specs.Memory.{chain}
use Rattle.cell_lists.specs.Walks.{ahead}
use Rattle.cell_lists.proofs.Walks.{located}
use Rattle.cell_lists.proofs.lists.CellLists.find.Goals as goal

pub returns : goal.returns
returns c =
    let m = c.args.self.now.memory in
    let a = c.args.a in
    let b = c.args.b in
    let found = first_from_find c.find.new.self _ c.find.result (λ p. p.1 ≡ b.value) (λ p. p.1 ≡ b.value → ⊥) c.find.ensures.ran
    (YieldsList-from_first (λ p. p) ahead (chain m a.value) c.neighbours.ensures)
    (λ x q k. search (rules, tests)) (λ x q k. search (rules, tests)) in
    let e : c.map.result ≡ option_map (λ p. p.0) c.find.result = search (rules, tests) in
    rw e (located m a.value b.value c.find.result (omega (arith, a.in_range)) (omega (arith, b.in_range)) found)
