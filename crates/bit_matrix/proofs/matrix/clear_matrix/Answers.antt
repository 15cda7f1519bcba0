use Rattle.std.proofs.Common.{◌≡◌, length, take, refl, ◌∙◌, arith}
use Rattle.std.proofs.lemmas.Bool.{lt-leb}
use Rattle.std.proofs.lemmas.List.{length-take-le}
use Rattle.bit_matrix.proofs.Rows.{cleared_empty, cleared_front, marked_short}
use Rattle.bit_matrix.proofs.matrix.clear_matrix.Goals as goal

pub returns-then-words-ge-WORDS : goal.returns-then-words-ge-WORDS
returns-then-words-ge-WORDS c =
    let words = c.args.words.now in
    let front : length (take 4096 words) ≡ 4096 = length-take-le 4096 words c.if-words-ge-WORDS.true in
    let cleared = cleared_front words c.fill.new.self c.if-words-ge-WORDS.true (c.fill.ensures.len ∙ front)
    (λ k l. c.fill.ensures.clones k 0 (omega arith) refl) in
    record { empty = cleared_empty words _ cleared; cleared = cleared }

pub returns-else-words-ge-WORDS-clause-empty : goal.returns-else-words-ge-WORDS-clause-empty
returns-else-words-ge-WORDS-clause-empty c x y = marked_short _ x y (lt-leb 4096 _ c.if-words-ge-WORDS.false)
