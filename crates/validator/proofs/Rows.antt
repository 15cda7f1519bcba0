-- The rows of faults.
use Rattle.std.proofs.Common.{◌≡◌, ℕ, ◌+◌, ◌^◌, ◌<◌, ◌≤◌, [], length, Some, None, Ok, Err, decimal, Option, Result, arith, length-append}
use Rattle.std.proofs.lemmas.Fmt.{length-decimal-le}
use Rattle.std.proofs.lemmas.List.{append-nil}
use Rattle.lifts.proofs.Small.{refusal_below_100}
use Rattle.lifts.specs.Faults.{unless_refused}
use Rattle.lifts.specs.Numbers.{refusal_number}
use Rattle.lifts.specs.declared.fault.Fault.{Fault}
use Rattle.rows.proofs.Writing.{written_nothing}
use Rattle.rows.specs.Fields.{field_text}
use Rattle.rows.specs.Texts.{Extended, Text, WholeRow, row_text}
use Rattle.validator.specs.Refusals.{fault_fields, lift_field}
use Rattle.validator.specs.Report.{line_faults, rows_of}

pub number_short : (n : ℕ) → n < 2 ^ 32 → length (decimal n) ≤ 10
number_short n h = length-decimal-le 10 n (omega arith) (omega arith) (omega arith)

pub fault_row_short : (n : ℕ) (fault : Fault) → n < 2 ^ 32 → length (field_text (lift_field fault.lift)) ≤ 10 → length (row_text (fault_fields n fault)) ≤ 64
fault_row_short n fault h short =
    let a = number_short n h in
    let c = number_short (refusal_number fault.refusal) (omega (arith, refusal_below_100 fault.refusal)) in
    simp length-append (omega arith)

-- what was done was not refused
pub none_refused : (o : Option Fault) (u : Unit {0}) → Ok u ≡ unless_refused o tt → o ≡ None
none_refused o u e = grind arith

pub one_refused : (o : Option Fault) (fault : Fault) → Err fault ≡ unless_refused {A = Unit {0}} o tt → o ≡ Some fault
one_refused o fault e = grind arith

pub no_row : (text : Text) → text.end ≤ length text.bytes → Extended text [] text
no_row text h = grind (arith, written_nothing)

-- there is room for a row, so it is written
pub row_written : (before after : Text) (n : ℕ) (fault : Fault) (r : Result (Unit {0}) Fault) → before.end + 64 ≤ length before.bytes → length (row_text (fault_fields n fault)) ≤ 64 → WholeRow before (fault_fields n fault) after r → Extended before (rows_of (line_faults n (Some fault))) after
row_written before after n fault (Ok _) room short w = rw (append-nil (row_text (fault_fields n fault))) w
row_written before after n fault (Err f) room short w = absurd (omega (arith, w.0.short))
