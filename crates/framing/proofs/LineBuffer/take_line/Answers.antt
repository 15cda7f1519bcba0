use Rattle.std.proofs.Common.{[], ◌∷◌, ◌++◌, sym, ◌∙◌, append_assoc}
use Rattle.framing.proofs.Steps.{ended_more, opens_more, taken_on, taken_part}
use Rattle.framing.proofs.LineBuffer.take_line.Goals as goal

pub returns-then-feed-clause-line : goal.returns-then-feed-clause-line
returns-then-feed-clause-line c = λ xs o.
    let v = c.loop-b.self in
    let b = c.in-Some.b.now in
    let e = c.feed.ensures in
    let t = c.loop-b.invariant in
    let p = taken_part c.args.block.now t.taken c.in-Some.after.now c.args.at b (rw c.in-Some.ensures.cases.0 at t.parts) in
    rw (append_assoc xs t.taken (b ∷ []), p) at (ended_more v c.feed.new.self b e.keeps e.cr (xs ++ t.taken) (sym e.ends ∙ c.if-feed.true) (t.line xs o))

pub loop-b-preserved : goal.loop-b-preserved
loop-b-preserved c =
    let e = c.feed.ensures in
    taken_on c.loop-b.invariant (taken_on {v = c.loop-b.self} {w = c.feed.new.self} (record {
      taken = c.in-Some.b.now ∷ [];
      parts = c.in-Some.ensures.cases.0;
      line = λ xs o. opens_more _ _ _ e.keeps e.cr xs (sym e.ends ∙ c.if-feed.false) o;
    }) c.take_plain-rest.ensures)
