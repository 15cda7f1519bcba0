use Rattle.std.proofs.Common.{arith}
use Rattle.conflicts.proofs.Edges.{edges_more, joined_loopless, joined_symmetric}
use Rattle.bit_matrix.specs.Matrix.{marked}
use Rattle.bit_matrix.proofs.Rows.{capacity_kept}
use Rattle.bit_matrix.proofs.matrix.BitMatrix.join.Goals as goal

pub invariant_of-self : goal.invariant_of-self
invariant_of-self c =
    let s = c.args.self.now in
    let pair = c.args.pair in
    let a = pair.first.value in
    let b = pair.second.value in
    let old = marked s.words.now in
    let new = marked c.put_pair.new.words in
    let after = c.put_pair.ensures.bits in
    let more = edges_more old new a b 512 (omega arith) (omega arith) pair.different s.symmetric c.requires.missing after in
    let kept = capacity_kept s.words.now c.put_pair.new.words c.put_pair.ensures.frame in record {
      symmetric = joined_symmetric old new a b s.symmetric after;
      loopless = joined_loopless old new a b s.loopless pair.different after;
      counted = omega arith;
      fitting = omega arith;
    }
