use Rattle.std.proofs.Common.{◌≡◌, min, leb, sym, ◌∙◌, rules, tests, arith}
use Rattle.std.specs.List.{filter, reduce}
use Rattle.std.proofs.lemmas.Iterator.{YieldsList-from_map}
use Rattle.std.proofs.lemmas.Iterator.Adapters.{option_map_id}
use Rattle.std.proofs.lemmas.Iterator.Consumers.{YieldsList-at, YieldsList-from_filter, YieldsList-from_first, min_from_yields_List}
use Rattle.cell_lists.specs.Memory.{chain}
use Rattle.cell_lists.specs.Walks.{ahead}
use Rattle.cell_lists.proofs.Walks.{names, next_in}
use Rattle.cell_lists.proofs.Smallest.{smallest}
use Rattle.cell_lists.proofs.lists.CellLists.smallest_from.Goals as goal

pub returns : goal.returns
returns c =
    let m = c.args.self.now.memory in
    let a = c.args.a in
    let e : c.min.result ≡ reduce min (filter (leb c.args.from) (names m a.value)) = sym (option_map_id c.min.result) ∙ min_from_yields_List c.filter.result c.min.result c.min.ensures.ran
    (YieldsList-from_filter _ (leb c.args.from)
    (YieldsList-at c.filter.ensures.source (YieldsList-from_map _ (λ p. p.1) (YieldsList-at c.map.ensures.source
    (YieldsList-from_first (λ p. p) ahead (chain m a.value) c.neighbours.ensures)) c.map.ensures.closure (λ x r q k. search (rules, tests))))
    c.filter.ensures.closure (λ x r q k. search (rules, tests))) in
    let r = next_in m a.value c.args.from c.min.result (omega (arith, a.in_range)) c.args.self.now.inside (rw e (smallest c.args.from (names m a.value))) in
    record { next = r.0; within = r.1 }
