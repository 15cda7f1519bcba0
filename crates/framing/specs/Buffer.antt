-- What a line buffer holds of the line that is being read.
use Rattle.std.specs.Prelude.{◌≡◌, ℕ, Bool, true, false, if◌then◌else◌, ◌&&◌, List, [], ◌∷◌, ◌++◌, take, ◌==◌}
use Rattle.framing.specs.Lines.{line_end, unbroken}
use Rattle.framing.specs.declared.LineBuffer.{LineBuffer}

-- A CR that is held back.
abbrev pub held : Bool → List ℕ
held true = 13 ∷ []
held false = []

-- Of a line's body the first 65 bytes are kept.
abbrev pub Keeps : LineBuffer → List ℕ → Type 0
Keeps buffer body = buffer.bytes.items ≡ take 65 body

-- The line ends with this byte.
abbrev pub ends : Bool → ℕ → Bool
ends cr b = cr && b == 10

-- The body with this byte: a CR is held back, and one that was held back belongs to the body unless the line ends.
abbrev pub body_after : Bool → ℕ → List ℕ → List ℕ
body_after cr b body = if ends cr b then body else (body ++ held cr) ++ (if b == 13 then [] else b ∷ [])

abbrev pub ends_in_cr : List ℕ → Bool
ends_in_cr [] = false
ends_in_cr (x ∷ []) = x == 13
ends_in_cr (x ∷ y ∷ xs) = ends_in_cr (y ∷ xs)

-- The bytes `xs` came since the last line's end: they are kept, but for a CR at their end, which is held back.
pub record Opens (buffer : LineBuffer) (xs : List ℕ) : Type 0 where
  pub body : List ℕ
  pub keeps : Keeps buffer body
  pub split : xs ≡ body ++ held buffer.cr
  pub last : ends_in_cr xs ≡ buffer.cr
  pub xs_unbroken : unbroken xs ≡ true

-- The bytes `xs` are a line with its CRLF, and its body is kept.
pub record Ended (buffer : LineBuffer) (xs : List ℕ) : Type 0 where
  pub body : List ℕ
  pub keeps : Keeps buffer body
  pub split : xs ≡ body ++ line_end
  pub none_held : buffer.cr ≡ false
  pub body_unbroken : unbroken body ≡ true

-- The front of `bytes` came in, and `rest` of them is left.
pub record Takes (before after : LineBuffer) (bytes rest : List ℕ) : Type 0 where
  pub taken : List ℕ
  pub parts : bytes ≡ taken ++ rest
  pub line : (xs : List ℕ) → Opens before xs → Opens after (xs ++ taken)
