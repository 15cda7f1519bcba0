use Rattle.std.proofs.Common.{refl, arith, rules}
use Rattle.std.proofs.lemmas.Bool.Decides.{nat_tests}
use Rattle.validator.proofs.Moves.{last_ended, last_reported, reading_ended}
use Rattle.validator.proofs.file.Validator.finish.Goals as goal

pub returns-then-is_done-clause-cases : goal.returns-then-is_done-clause-cases
returns-then-is_done-clause-cases c = λ input text v. reading_ended input text _ c.args.self.now v (grind (arith, nat_tests))

pub returns-then-not-is_open-clause-cases : goal.returns-then-not-is_open-clause-cases
returns-then-not-is_open-clause-cases c = λ input text v. last_ended input text _ c.args.self.now v ((c.if-not-is_open.ensures.line v.rest v.opens).0 refl)

pub returns-clause-cases : goal.returns-clause-cases
returns-clause-cases c =
    λ input text v.
    let begun = c.if-not-is_open.ensures.line v.rest v.opens in
    last_reported input text _ _ c.args.self.now c.close_line.new.self c.end.new.self (grind (arith, nat_tests)) v
    (λ e. absurd (let f = begun.1 e in cc))
    (c.end.ensures.line v.rest v.opens)
    (search rules)
