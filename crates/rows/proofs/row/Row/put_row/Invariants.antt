use Rattle.std.proofs.Common.{◌≡◌, true, drop}
use Rattle.rows.specs.Rows.{SameLoans, text_of}
use Rattle.rows.specs.Texts.{pieces}
use Rattle.rows.proofs.Pieces.{Led}
use Rattle.rows.proofs.row.Row.put_row.Given as goal

abbrev pub invariant-loop-field : goal.invariant-loop-field
invariant-loop-field l = record {
  loans : SameLoans l.initial.self l.self;
  start : l.self.start ≡ l.initial.self.start;
  led : Led (text_of l.initial.self) (pieces true l.fields) (text_of l.self) (pieces l.self.first (drop l.field-index l.fields));
}
