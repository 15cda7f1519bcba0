use Rattle.std.proofs.Common.{◌≡◌, None, arith}
use Rattle.std.proofs.lemmas.Bool.Decides.{nat_tests}
use Rattle.conflicts.specs.Refusals.{remove_refusal}
use Rattle.conflicts.proofs.graph.ConflictGraph.isolate.Goals as goal

pub loop-b-preserved : goal.loop-b-preserved
loop-b-preserved g c =
    let k = g.Self.ConflictGraph in
    let pairs = k.adjacent c.loop-b.self in
    let a = c.args.a in
    let next = rw c.in-Some.is at c.in_ok-b.ensures in
    let taken : remove_refusal pairs a c.in-Some.b ≡ None = grind (arith, nat_tests, k.loopless c.loop-b.self a) in
    let removed = rw (c.remove.ensures.verdict, taken) at c.remove.ensures.after in
    record {
      within = omega arith;
      elsewhere = λ x y n. grind (arith, nat_tests, c.loop-b.invariant.elsewhere x y, removed x y);
      behind = λ q l. grind (arith, nat_tests, removed a q);
      fixed = grind arith;
      frame = k.onward _ _ _ c.loop-b.invariant.frame c.remove.ensures.frame;
      refused = λ large. absurd (grind (arith, nat_tests));
    }
