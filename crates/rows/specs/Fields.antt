-- The bytes of a field.
use Rattle.std.specs.Prelude.{ℕ, List, [], codes, decimal, None, Some, Option}
use Rattle.lifts.specs.Faults.{refusal_text}
use Rattle.lifts.specs.declared.state.State.{State}
use Rattle.lifts.specs.declared.state.State.TheVariants as states
use Rattle.rows.specs.declared.field.Field.{Field}
use Rattle.rows.specs.declared.field.Field.TheVariants as fields
use Rattle.rows.specs.declared.field.Word.{Word}
use Rattle.rows.specs.declared.field.Word.TheVariants as words

abbrev pub state_text : State → List ℕ
state_text states.Released = codes "released"
state_text states.Held = codes "held"
state_text states.Off = codes "off"

abbrev pub word_text : Word → List ℕ
word_text words.Line = codes "line"
word_text words.Lift = codes "lift"
word_text words.State = codes "state"

-- the digits of a number, if there is one
abbrev pub number_text : Option ℕ → List ℕ
number_text None = []
number_text (Some n) = decimal n

abbrev pub field_text : Field → List ℕ
field_text fields.Empty = []
field_text (fields.Number n) = decimal n
field_text (fields.State s) = state_text s
field_text (fields.Refused r) = refusal_text r
field_text (fields.Word w) = word_text w
