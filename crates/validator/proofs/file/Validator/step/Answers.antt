use Rattle.std.proofs.Common.{◌-◌, length, take, drop, refl, rules}
use Rattle.rows.specs.Texts.{text_to}
use Rattle.std.proofs.lemmas.List.{take_rest}
use Rattle.validator.proofs.Moves.{line_closed, line_open}
use Rattle.validator.proofs.file.Validator.step.Goals as goal

pub returns-in-Some-clause-law : goal.returns-in-Some-clause-law
returns-in-Some-clause-law c =
    let taken = take (c.in-Some.next - c.args.at) (drop c.args.at c.args.block.now) in
    let before = text_to c.args.bytes.now c.args.cursor.now.end in
    let after = text_to c.close_line.new.bytes c.close_line.new.cursor.end in
    λ input text v.
    line_closed input text taken before after c.args.self.now c.close_line.new.self c.take_line.new.self (search rules) v
    (c.in-Some.ensures.line v.rest v.opens)
    (search rules)
    c.close_line.ensures.clears

pub returns-in-None-clause-law : goal.returns-in-None-clause-law
returns-in-None-clause-law c =
    let block = c.args.block.now in
    let at = c.args.at in
    let line = c.take_line.new.self in
    λ input text v.
    line_open input text (take (length block - at) (drop at block)) (text_to c.args.bytes.now c.args.cursor.now.end) c.args.self.now _ v
    (rw (take_rest block at) (c.in-None.ensures.line v.rest v.opens))
    refl
    refl
