-- The change that a line means.
use Rattle.std.specs.Prelude.{ℕ, if◌then◌else◌, ◌||◌, List, [], ◌∷◌, length, Some, None, codes, Option, option_and_then, ◌==◌, nat_le, nat_lt}
use Rattle.std.specs.Option.{option_map}
use Rattle.std.specs.Str.{bytes_eq}
use Rattle.lines.specs.Format.{fields, argument}
use Rattle.lifts.specs.Faults.{tried, without_lift}
use Rattle.lifts.specs.declared.fault.Fault.{Fault}
use Rattle.lifts.specs.declared.fault.Layer.TheVariants.{File}
use Rattle.lifts.specs.declared.fault.Refusal.TheVariants.{MalformedLine, LineNumberOutOfRange}
use Rattle.lines.specs.declared.change.Change.{Change}
use Rattle.lines.specs.declared.change.Change.TheVariants.{Enter, Clear, Clash, Lapse}
use Rattle.lines.specs.declared.change.ClashArguments.{ClashArguments}
use Rattle.lines.specs.declared.change.ClearArguments.{ClearArguments}
use Rattle.lines.specs.declared.change.EnterArguments.{EnterArguments}
use Rattle.lines.specs.declared.change.LapseArguments.{LapseArguments}
use Rattle.lines.specs.declared.line.Line.{Line}
use Rattle.lines.specs.declared.line.Line.TheVariants.{Header, Change as ChangeLine}

abbrev pub enter_of : ℕ → ℕ → ℕ → EnterArguments
enter_of a b c = record { number = a; due = b; class = c }

abbrev pub clear_of : ℕ → ℕ → ℕ → ClearArguments
clear_of a b c = record { lift = a }

abbrev pub clash_of : ℕ → ℕ → ℕ → ClashArguments
clash_of a b c = record { first = a; second = b }

abbrev pub lapse_of : ℕ → ℕ → ℕ → LapseArguments
lapse_of a b c = record { first = a; second = b }

-- three fields behind the word, of which the first `filled` hold numbers and the rest nothing
abbrev pub arguments : {A : Type 0} → ℕ → (ℕ → ℕ → ℕ → A) → List (List ℕ) → Option A
arguments filled built [] = None
arguments filled built (a ∷ []) = None
arguments filled built (a ∷ b ∷ []) = None
arguments filled built (a ∷ b ∷ c ∷ []) =
    option_and_then (λ x. option_and_then (λ y. option_and_then (λ z. Some (built x y z)) (argument (nat_lt 2 filled) c)) (argument (nat_lt 1 filled) b)) (argument (nat_lt 0 filled) a)
arguments filled built (a ∷ b ∷ c ∷ d ∷ rest) = None

abbrev pub reads_as : {A : Type 0} → ℕ → (ℕ → ℕ → ℕ → A) → (A → Change) → List (List ℕ) → Option Change
reads_as filled built meant fs = option_map meant (arguments filled built fs)

-- the word says which kind of change it is
abbrev pub change_of : List (List ℕ) → Option Change
change_of [] = None
change_of (word ∷ fs) =
    if bytes_eq word (codes "enter") then reads_as 3 enter_of Enter fs
    else if bytes_eq word (codes "clear") then reads_as 1 clear_of Clear fs
    else if bytes_eq word (codes "clash") then reads_as 2 clash_of Clash fs
    else if bytes_eq word (codes "lapse") then reads_as 2 lapse_of Lapse fs
    else None

-- a line has at most 64 bytes
abbrev pub meaning : List ℕ → Option Change
meaning line = if nat_le (length line) 64 then change_of (fields line) else None

-- line 1 is the header
abbrev pub line_meaning : ℕ → List ℕ → Option Line
line_meaning number line =
    if number == 1
    then (if bytes_eq line (codes "op,a,b,c") then Some Header else None)
    else option_map ChangeLine (meaning line)

abbrev pub malformed_line : Fault
malformed_line = without_lift MalformedLine File

-- lines are numbered from 1 to 1,000,000
abbrev pub line_number_refusal : ℕ → Option Fault
line_number_refusal number = tried ((number == 0 || nat_lt 1000000 number, without_lift LineNumberOutOfRange File) ∷ [])
