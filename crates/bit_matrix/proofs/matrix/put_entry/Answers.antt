use Rattle.std.proofs.Common.{arith}
use Rattle.bit_matrix.proofs.Rows.{framed_set, marked_written}
use Rattle.bit_matrix.proofs.matrix.put_entry.Goals as goal

pub returns : goal.returns
returns c =
    let place = c.place-word in
    let words = c.args.words.now in
    record {
      bits = marked_written words c.args.a.value c.args.b.value place.result.0 c.with_bit.result c.args.stands
          place.ensures.word.0 c.requires (omega arith) (omega arith) (rw (← place.ensures.bit) c.with_bit.ensures);
      frame = framed_set words place.result.0 c.with_bit.result place.ensures.word.1;
    }
