use Rattle.std.proofs.Common.{arith}
use Rattle.conflicts.proofs.Edges.{edges_fewer, parted_loopless, parted_symmetric}
use Rattle.bit_matrix.specs.Matrix.{marked}
use Rattle.bit_matrix.proofs.Rows.{capacity_kept, marked_suffices}
use Rattle.bit_matrix.proofs.matrix.BitMatrix.part.Goals as goal

pub put_pair-requires : goal.put_pair-requires
put_pair-requires c = marked_suffices c.args.self.now.words.now c.args.pair.first.value c.args.pair.second.value c.requires

pub overflow_sub-edges : goal.overflow_sub-edges
overflow_sub-edges c =
    let s = c.args.self.now in
    let fewer = edges_fewer (marked s.words.now) (marked c.put_pair.new.words) c.args.pair.first.value c.args.pair.second.value 512
    (omega arith) (omega arith) s.symmetric s.loopless c.requires c.put_pair.ensures.bits in
    omega arith

pub invariant_of-self : goal.invariant_of-self
invariant_of-self c =
    let s = c.args.self.now in
    let a = c.args.pair.first.value in
    let b = c.args.pair.second.value in
    let old = marked s.words.now in
    let new = marked c.put_pair.new.words in
    let after = c.put_pair.ensures.bits in
    let fewer = edges_fewer old new a b 512 (omega arith) (omega arith) s.symmetric s.loopless c.requires after in
    let kept = capacity_kept s.words.now c.put_pair.new.words c.put_pair.ensures.frame in record {
      symmetric = parted_symmetric old new a b s.symmetric after;
      loopless = parted_loopless old new a b s.loopless after;
      counted = omega arith;
      fitting = omega arith;
    }
