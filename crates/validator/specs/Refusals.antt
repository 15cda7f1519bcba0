-- What no board takes, whatever it holds.
use Rattle.std.specs.Prelude.{ℕ, List, [], ◌∷◌, Some, None, Option}
use Rattle.std.specs.Option.{option_or}
use Rattle.lifts.specs.Faults.{number_refusal, pair_refusal, record_refusal}
use Rattle.lifts.specs.declared.fault.Fault.{Fault}
use Rattle.lifts.specs.declared.fault.Layer.TheVariants.{Board}
use Rattle.lines.specs.Meaning.{line_meaning, line_number_refusal, malformed_line}
use Rattle.lines.specs.declared.change.Change.{Change}
use Rattle.lines.specs.declared.change.Change.TheVariants.{Enter, Clear, Clash, Lapse}
use Rattle.lines.specs.declared.line.Line.{Line}
use Rattle.lines.specs.declared.line.Line.TheVariants.{Header, Change as ChangeLine}
use Rattle.rows.specs.declared.field.Field.{Field}
use Rattle.rows.specs.declared.field.Field.TheVariants as fields

-- a number above 511, a due or class out of range, twice the same lift
abbrev pub change_refusal : Change → Option Fault
change_refusal (Enter x) = record_refusal x.number x.due x.class
change_refusal (Clear x) = number_refusal Board x.lift
change_refusal (Clash x) = pair_refusal Board x.first x.second
change_refusal (Lapse x) = pair_refusal Board x.first x.second

abbrev pub meaning_refusal : Option Line → Option Fault
meaning_refusal None = Some malformed_line
meaning_refusal (Some Header) = None
meaning_refusal (Some (ChangeLine change)) = change_refusal change

-- its number is tried first, then what it says
abbrev pub line_refusal : ℕ → List ℕ → Option Fault
line_refusal number line = option_or (line_number_refusal number) (meaning_refusal (line_meaning number line))

abbrev pub lift_field : Option ℕ → Field
lift_field None = fields.Empty
lift_field (Some lift) = fields.Number lift

-- the row of a fault: its line, its lift, `refused` and the number
abbrev pub fault_fields : ℕ → Fault → List Field
fault_fields number fault = fields.Number number ∷ lift_field fault.lift ∷ fields.Refused fault.refusal ∷ []
