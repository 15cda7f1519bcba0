-- A text that grows at the front of its bytes, piece by piece, and the pieces of a row.
use Rattle.std.specs.Prelude.{◌≡◌, ℕ, ◌+◌, ◌-◌, ◌<◌, ◌≤◌, Bool, true, false, if◌then◌else◌, List, [], ◌∷◌, ◌++◌, length, take, drop, Ok, Err, codes, Result, nat_le}
use Rattle.std.specs.List.{flat_map}
use Rattle.lifts.specs.Faults.{without_lift}
use Rattle.lifts.specs.declared.fault.Fault.{Fault}
use Rattle.lifts.specs.declared.fault.Layer.TheVariants.{File}
use Rattle.lifts.specs.declared.fault.Refusal.TheVariants.{TextFull}
use Rattle.rows.specs.Fields.{field_text}
use Rattle.rows.specs.declared.field.Field.{Field}

-- `bytes` with `piece` written at `end`, over what stood there
unfoldable pub written : List ℕ → ℕ → List ℕ → List ℕ
written bytes end piece = take end bytes ++ (piece ++ drop (end + length piece) bytes)

-- The text is the bytes before `end`.
pub record Text : Type 0 where
  pub bytes : List ℕ
  pub end : ℕ

abbrev pub text_to : List ℕ → ℕ → Text
text_to bytes end = record { bytes = bytes; end = end }

-- `piece` was written behind the text, and belongs to it now
pub record Extended (before : Text) (piece : List ℕ) (after : Text) : Type 0 where
  pub fits : before.end + length piece ≤ length before.bytes
  pub bytes : after.bytes ≡ written before.bytes before.end piece
  pub end : after.end ≡ before.end + length piece

-- too few bytes are left behind the text for `piece`
pub record Full (before : Text) (piece : List ℕ) (fault : Fault) : Type 0 where
  pub short : length before.bytes < before.end + length piece
  pub refused : fault ≡ without_lift TextFull File

-- all of the piece, or nothing
abbrev pub Appended : Text → List ℕ → Text → Result (Unit {0}) Fault → Type 0
Appended before piece after (Ok _) = Extended before piece after
Appended before piece after (Err fault) =
    Full before piece fault × (after.bytes ≡ before.bytes) × (after.end ≡ before.end)

-- a comma before each field but the first of its row
abbrev pub row_piece : Bool → List ℕ → List ℕ
row_piece true field = field
row_piece false field = codes "," ++ field

abbrev pub line_end : List ℕ
line_end = 13 ∷ 10 ∷ []

-- a row: fields with commas between them, then CRLF
abbrev pub row_text : List Field → List ℕ
row_text [] = line_end
row_text (f ∷ fs) = field_text f ++ (flat_map (λ g. codes "," ++ field_text g) fs ++ line_end)

-- the pieces in which a row is written
abbrev pub pieces : Bool → List Field → List (List ℕ)
pieces first [] = line_end ∷ []
pieces first (f ∷ fs) = row_piece first (field_text f) ∷ pieces false fs

-- the pieces that fit in `room` bytes, up to the first that does not
abbrev pub fitting : ℕ → List (List ℕ) → List ℕ
fitting room [] = []
fitting room (p ∷ ps) = if nat_le (length p) room then p ++ fitting (room - length p) ps else []

-- a row that was not finished: the text is as it was, and behind it stand the pieces that fitted
pub record Abandoned (before : Text) (row : List (List ℕ)) (after : Text) : Type 0 where
  pub end : after.end ≡ before.end
  pub text : take before.end after.bytes ≡ take before.end before.bytes
  pub bytes : after.bytes ≡ written before.bytes before.end (fitting (length before.bytes - before.end) row)

-- a whole row, or none
abbrev pub WholeRow : Text → List Field → Text → Result (Unit {0}) Fault → Type 0
WholeRow before fields after (Ok _) = Extended before (row_text fields) after
WholeRow before fields after (Err fault) = Full before (row_text fields) fault × Abandoned before (pieces true fields) after
