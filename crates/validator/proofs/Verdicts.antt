-- The verdict on what a line says, from what reading it answered.
use Rattle.std.proofs.Common.{◌≡◌, Some, Ok, Err, Option, Result, arith}
use Rattle.std.specs.Option.{ok_or}
use Rattle.lifts.specs.Faults.{unless_refused}
use Rattle.lifts.specs.declared.fault.Fault.{Fault}
use Rattle.lines.specs.Meaning.{malformed_line}
use Rattle.lines.specs.declared.line.Line.{Line}
use Rattle.validator.specs.Refusals.{meaning_refusal}

abbrev pub verdict_on : Result Line Fault → Result (Unit {0}) Fault
verdict_on (Ok line) = unless_refused (meaning_refusal (Some line)) tt
verdict_on (Err fault) = Err fault

pub verdict : (m : Option Line) → unless_refused (meaning_refusal m) tt ≡ verdict_on (ok_or m malformed_line)
verdict m = grind arith
