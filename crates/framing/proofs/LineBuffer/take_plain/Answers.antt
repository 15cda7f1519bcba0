use Rattle.std.proofs.Common.{refl}
use Rattle.std.proofs.lemmas.List.{take-append-drop}
use Rattle.framing.proofs.Steps.{plain_more, plain_taken}
use Rattle.framing.proofs.LineBuffer.take_plain.Goals as goal

pub returns : goal.returns
returns c =
    let bytes = c.args.bytes.now in
    let n = c.plain_len.result in
    let e = c.split_at.ensures in
    record {
      taken = c.split_at.result.0.now;
      parts = rw (e.front, e.back, take-append-drop n bytes) refl;
      line = plain_more _ _ _ c.push_all.ensures.keeps c.push_all.ensures.cr c.if-self.false
          (λ k l. rw e.front (plain_taken bytes n c.plain_len.ensures.plain k (rw e.front at l)));
    }
