-- How bytes are cut into lines at CRLF.
use Rattle.std.specs.Prelude.{◌≡◌, ℕ, Bool, true, not, ◌&&◌, List, [], ◌∷◌, ◌++◌, Decides, ◌==◌, ◌≢◌}
use Rattle.std.specs.List.{flat_map, AllByRecursion}

-- CRLF
abbrev pub line_end : List ℕ
line_end = 13 ∷ 10 ∷ []

-- No CR has an LF right behind it.
abbrev pub unbroken : List ℕ → Bool
unbroken [] = true
unbroken (x ∷ []) = true
unbroken (x ∷ y ∷ xs) = not (x == 13 && y == 10) && unbroken (y ∷ xs)

-- The input is the lines, each with its CRLF, and a rest that has none.
pub record Cut (input : List ℕ) (lines : List (List ℕ)) (rest : List ℕ) : Type 0 where
  pub whole : input ≡ flat_map (λ line. line ++ line_end) lines ++ rest
  pub lines_unbroken : AllByRecursion (λ line. unbroken line ≡ true) lines
  pub rest_unbroken : unbroken rest ≡ true

-- Unbroken is what holds no CRLF.
abbrev pub UnbrokenTells : Type 0
UnbrokenTells = (xs : List ℕ) → Decides (unbroken xs) ((before after : List ℕ) → xs ≢ before ++ (line_end ++ after))

-- An input is cut in one way.
abbrev pub OneCut : Type 0
OneCut = (input : List ℕ) (lines lines' : List (List ℕ)) (rest rest' : List ℕ) → Cut input lines rest → Cut input lines' rest' → (lines ≡ lines') × (rest ≡ rest')

-- Every input is cut in some way.
abbrev pub SomeCut : Type 0
SomeCut = (input : List ℕ) → (lines : List (List ℕ)) × (rest : List ℕ) × Cut input lines rest

-- What was cut stays cut as a piece comes in with which the line ends.
abbrev pub LineEnds : Type 0
LineEnds = (input piece : List ℕ) (lines : List (List ℕ)) (rest body : List ℕ) → Cut input lines rest → unbroken body ≡ true → rest ++ piece ≡ body ++ line_end → Cut (input ++ piece) (lines ++ (body ∷ [])) []

-- And as a piece comes in with which it does not end.
abbrev pub LineGoesOn : Type 0
LineGoesOn = (input piece : List ℕ) (lines : List (List ℕ)) (rest : List ℕ) → Cut input lines rest → unbroken (rest ++ piece) ≡ true → Cut (input ++ piece) lines (rest ++ piece)
