-- How the bytes of a line make fields, and a field a number.
use Rattle.std.specs.Prelude.{ℕ, Bool, false, if◌then◌else◌, ◌&&◌, List, [], ◌∷◌, length, drop, Some, None, Option, ◌==◌, nat_le}
use Rattle.std.specs.Str.Parse.{digits_value}
use Rattle.std.specs.Char.{is_ascii_digit}
use Rattle.std.specs.Str.{all_ascii_digits}
use Rattle.lines.specs.declared.reader.FieldReader.{FieldReader}

-- the first field is one byte longer
abbrev pub onto : ℕ → List (List ℕ) → List (List ℕ)
onto b [] = []
onto b (f ∷ fs) = (b ∷ f) ∷ fs

-- what stands before, between and behind the commas
abbrev pub fields : List ℕ → List (List ℕ)
fields [] = [] ∷ []
fields (b ∷ bs) = if b == 44 then [] ∷ fields bs else onto b (fields bs)

-- the fields from a place on; past the line's end there is none
abbrev pub fields_from : List ℕ → ℕ → List (List ℕ)
fields_from line place = if nat_le place (length line) then fields (drop place line) else []

-- the fields that a reader has before it
abbrev pub fields_of : FieldReader → List (List ℕ)
fields_of reader = fields_from reader.line.now reader.place

-- 0 itself, or one to five digits with no zero first
abbrev pub is_numeral : List ℕ → Bool
is_numeral [] = false
is_numeral (b ∷ bs) = if b == 48 then length bs == 0 else is_ascii_digit b && all_ascii_digits bs && nat_le (length bs) 4

abbrev pub numeral : List ℕ → Option ℕ
numeral f = if is_numeral f then Some (digits_value 10 f) else None

-- an argument's field holds a number where it is to be filled, and else nothing
abbrev pub argument : Bool → List ℕ → Option ℕ
argument filled f = if filled then numeral f else if length f == 0 then Some 0 else None
