-- Two rows of one field each.
use Rattle.std.specs.Prelude.{◌≡◌, ℕ, ◌+◌, ◌-◌, true, if◌then◌else◌, List, [], ◌∷◌, ◌++◌, length, Ok, Err, Result, nat_le}
use Rattle.lifts.specs.declared.fault.Fault.{Fault}
use Rattle.rows.specs.Texts.{Extended, Full, Text, fitting, pieces, row_text, written}
use Rattle.rows.specs.declared.field.Field.{Field}

abbrev pub one_row : Field → List ℕ
one_row field = row_text (field ∷ [])

-- where the text ends with a row, if that fits
abbrev pub end_with : Text → List ℕ → ℕ
end_with text row = if nat_le (text.end + length row) (length text.bytes) then text.end + length row else text.end

-- Both rows; or the first, if it fits, and behind the text the pieces that fit.
abbrev pub TwoRows : {X : Type 0} → Text → Field → Field → Text → Result X Fault → Type 0
TwoRows before one other after (Ok _) = Extended before (one_row one ++ one_row other) after
TwoRows before one other after (Err fault) =
    Full before (one_row one ++ one_row other) fault
    × (after.bytes ≡ written before.bytes before.end (fitting (length before.bytes - before.end) (pieces true (one ∷ []) ++ pieces true (other ∷ []))))
    × (after.end ≡ end_with before (one_row one))
