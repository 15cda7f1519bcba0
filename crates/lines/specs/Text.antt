-- How a change is written as a line.
use Rattle.std.specs.Prelude.{◌≡◌, ℕ, ◌<◌, List, [], ◌∷◌, ◌++◌, Some, codes, decimal}
use Rattle.lines.specs.Meaning.{meaning}
use Rattle.lines.specs.declared.change.Change.{Change}
use Rattle.lines.specs.declared.change.Change.TheVariants.{Enter, Clear, Clash, Lapse}

abbrev pub commas : List (List ℕ) → List ℕ
commas [] = []
commas (f ∷ []) = f
commas (f ∷ g ∷ fs) = f ++ (44 ∷ commas (g ∷ fs))

abbrev pub line_text : Change → List ℕ
line_text (Enter x) = commas (codes "enter" ∷ decimal x.number ∷ decimal x.due ∷ decimal x.class ∷ [])
line_text (Clear x) = commas (codes "clear" ∷ decimal x.lift ∷ [] ∷ [] ∷ [])
line_text (Clash x) = commas (codes "clash" ∷ decimal x.first ∷ decimal x.second ∷ [] ∷ [])
line_text (Lapse x) = commas (codes "lapse" ∷ decimal x.first ∷ decimal x.second ∷ [] ∷ [])

-- its numbers have at most five digits
abbrev pub Writable : Change → Type 0
Writable (Enter x) = (x.number < 100000) × (x.due < 100000) × (x.class < 100000)
Writable (Clear x) = x.lift < 100000
Writable (Clash x) = (x.first < 100000) × (x.second < 100000)
Writable (Lapse x) = (x.first < 100000) × (x.second < 100000)

-- a change that is written as a line is read back from it
abbrev pub ReadsBack : Type 0
ReadsBack = (c : Change) → Writable c → meaning (line_text c) ≡ Some c

-- a line that means a change is that change as it is written
abbrev pub OnlyText : Type 0
OnlyText = (line : List ℕ) (c : Change) → meaning line ≡ Some c → Writable c × (line ≡ line_text c)

-- no two lines mean the same change
abbrev pub OneLine : Type 0
OneLine = (line other : List ℕ) (c : Change) → meaning line ≡ Some c → meaning other ≡ Some c → line ≡ other
