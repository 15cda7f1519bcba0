use Rattle.std.proofs.Common.{◌≡◌, ◌+◌, ◌-◌, ◌≤◌, length, refl, arith, rules}
use Rattle.rows.specs.Texts.{text_to}
use Rattle.std.proofs.lemmas.Bool.Decides.{nat_tests}
use Rattle.validator.proofs.Moves.{further_twice, none_further, part_more}
use Rattle.validator.proofs.file.Validator.advance.Goals as goal

pub loop-place-init : goal.loop-place-init
loop-place-init c =
    let none : 0 ≡ c.args.at - c.args.at = omega arith in
    record {
      onward = omega arith;
      within = λ h. h;
      unmoved = λ _. (refl, refl);
      law = λ input text v. rw (← none) (none_further input text _ c.args.self.now v);
    }

pub loop-place-preserved : goal.loop-place-preserved
loop-place-preserved c =
    let at = c.args.at in
    let place = c.loop-place.place in
    let next = c.step-place.result in
    let block = c.args.block.now in
    let before = text_to c.args.bytes.now c.args.cursor.now.end in
    let middle = text_to c.loop-place.bytes c.loop-place.cursor.end in
    let after = text_to c.step-place.new.bytes c.step-place.new.cursor.end in
    let was = c.loop-place.self in
    let is = c.step-place.new.self in
    let done = c.loop-place.invariant in
    let onward = done.onward in
    record {
      onward = omega arith;
      within = search rules;
      unmoved = λ e. absurd (omega arith);
      law = λ input text v.
          let f = done.law input text v in
          let room : c.loop-place.cursor.end + 64 ≤ length c.loop-place.bytes = grind (arith, nat_tests) in
          let h : c.args.cursor.now.end ≤ length c.args.bytes.now = omega (arith, f.end, room, c.loop-place.auto.bytes) in
          rw (← part_more block at place next (omega arith) (omega arith))
          (further_twice input text _ _ before middle after was is h f c.step-place.ensures.law);
    }
