-- What a validator holds after it was given some of a file.
use Rattle.std.specs.Prelude.{◌≡◌, ℕ, ◌+◌, ◌≤◌, Bool, ◌||◌, List, ◌++◌, length, take, nat_lt}
use Rattle.validator.specs.declared.file.Validator.{Validator}
use Rattle.framing.specs.Buffer.{Opens}
use Rattle.framing.specs.Lines.{Cut}
use Rattle.framing.specs.declared.LineBuffer.{LineBuffer}
use Rattle.rows.specs.Texts.{Text, written}
use Rattle.validator.specs.Report.{File, faults_of, report}

-- A line has begun that is not ended.
abbrev pub begun : LineBuffer → Bool
begun buffer = nat_lt 0 (length buffer.bytes.items) || buffer.cr

-- The bytes `input` were given, and `text` was written of their lines.
pub record Validated (input text : List ℕ) (validator : Validator) : Type 0 where
  pub lines : List (List ℕ)
  pub rest : List ℕ
  pub cut : Cut input lines rest
  pub opens : Opens validator.line rest
  pub few : length lines ≤ 1000001
  pub numbered : validator.number ≡ length lines
  pub counted : validator.refused ≡ length (faults_of lines)
  pub reported : text ≡ report lines

-- The bytes `taken` were given too, and what they add to the report was written behind the text.
pub record Further (input text taken : List ℕ) (before after : Text) (validator : Validator) : Type 0 where
  pub piece : List ℕ
  pub bytes : after.bytes ≡ written before.bytes before.end piece
  pub end : after.end ≡ before.end + length piece
  pub validated : Validated (input ++ taken) (text ++ piece) validator

-- The file ends there: the report on its lines is written, and they are counted.
pub record Finished (input text : List ℕ) (before after : Text) (validator : Validator) : Type 0 where
  pub piece : List ℕ
  pub bytes : after.bytes ≡ written before.bytes before.end piece
  pub end : after.end ≡ before.end + length piece
  pub lines : List (List ℕ)
  pub file : File input lines
  pub reported : text ++ piece ≡ report lines
  pub numbered : validator.number ≡ length (take 1000001 lines)
  pub counted : validator.refused ≡ length (faults_of lines)
