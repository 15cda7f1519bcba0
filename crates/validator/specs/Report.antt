-- The report on a file: a header, and a row for each line that no board takes.
use Rattle.std.specs.Prelude.{◌≡◌, ℕ, ◌+◌, if◌then◌else◌, List, [], ◌∷◌, ◌++◌, length, take, Some, None, Option, ◌==◌}
use Rattle.std.specs.List.{flat_map}
use Rattle.lifts.specs.declared.fault.Fault.{Fault}
use Rattle.rows.specs.Texts.{row_text}
use Rattle.rows.specs.declared.field.Field.{Field}
use Rattle.rows.specs.declared.field.Field.TheVariants as fields
use Rattle.rows.specs.declared.field.Word.TheVariants as words
use Rattle.framing.specs.Lines.{Cut}
use Rattle.validator.specs.Refusals.{fault_fields, line_refusal}

-- a line's number and its fault
pub record LineFault : Type 0 where
  pub line : ℕ
  pub fault : Fault

abbrev pub line_faults : ℕ → Option Fault → List LineFault
line_faults number None = []
line_faults number (Some fault) = record { line = number; fault = fault } ∷ []

-- the faults of lines that are numbered from `number` on
abbrev pub faults_from : ℕ → List (List ℕ) → List LineFault
faults_from number [] = []
faults_from number (line ∷ lines) = line_faults number (line_refusal number line) ++ faults_from (number + 1) lines

-- the first line past the last number has its fault too, and is the last that is read
abbrev pub faults_of : List (List ℕ) → List LineFault
faults_of lines = faults_from 1 (take 1000001 lines)

abbrev pub rows_of : List LineFault → List ℕ
rows_of faults = flat_map (λ f. row_text (fault_fields f.line f.fault)) faults

abbrev pub header_fields : List Field
header_fields = fields.Word words.Line ∷ fields.Word words.Lift ∷ fields.Word words.State ∷ []

abbrev pub report : List (List ℕ) → List ℕ
report lines = row_text header_fields ++ rows_of (faults_of lines)

-- the lines of a whole file: the last may lack its CRLF
pub record File (input : List ℕ) (lines : List (List ℕ)) : Type 0 where
  pub ended : List (List ℕ)
  pub rest : List ℕ
  pub cut : Cut input ended rest
  pub all : lines ≡ (if length rest == 0 then ended else ended ++ (rest ∷ []))
