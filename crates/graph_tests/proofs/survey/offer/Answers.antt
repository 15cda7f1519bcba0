use Rattle.std.proofs.Common.{◌≡◌, ◌+◌, None, arith}
use Rattle.std.proofs.lemmas.Bool.Decides.{nat_tests}
use Rattle.conflicts.specs.Graphs.{edge_count}
use Rattle.conflicts.specs.Refusals.{insert_refusal}
use Rattle.conflicts.proofs.Edges.{edges_more}
use Rattle.graph_tests.proofs.survey.offer.Goals as goal

-- Where nothing refuses the pair, one more stands.
pub returns-clause-counted : goal.returns-clause-counted
returns-clause-counted g c =
    let k = g.G.ConflictGraph in
    let graph = c.args.graph.now in
    let old = k.adjacent graph in
    let new = k.adjacent c.insert.new.self in
    let a = c.args.a in
    let b = c.args.b in
    let e = c.insert.ensures in
    let more : insert_refusal old (k.limit graph) a b ≡ None → edge_count new ≡ edge_count old + 1 =
    λ none.
    let after = rw (e.verdict, none) at e.after in
    omega (arith, edges_more old new a b 512 (grind (arith, nat_tests)) (grind (arith, nat_tests)) (λ same. grind (arith, nat_tests)) (k.symmetric graph) (grind (arith, nat_tests)) after) in
    grind (arith, nat_tests)
