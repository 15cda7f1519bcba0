-- What refuses, and with which fault. Assumes nothing.
use Rattle.std.specs.Prelude.{ℕ, Bool, if◌then◌else◌, ◌||◌, List, [], ◌∷◌, ◌++◌, codes, decimal, Some, None, Ok, Err, Option, Result, ◌==◌, nat_lt}
use Rattle.lifts.specs.Numbers.{refusal_number}
use Rattle.lifts.specs.declared.fault.Fault.{Fault}
use Rattle.lifts.specs.declared.fault.Layer.{Layer}
use Rattle.lifts.specs.declared.fault.Layer.TheVariants.{Board}
use Rattle.lifts.specs.declared.fault.Refusal.{Refusal}
use Rattle.lifts.specs.declared.fault.Refusal.TheVariants.{NumberTooLarge, SameLiftTwice, DueOrClassTooLarge}

abbrev pub about : Refusal → Layer → ℕ → Fault
about refusal layer lift = record { refusal = refusal; layer = layer; lift = Some lift }

abbrev pub without_lift : Refusal → Layer → Fault
without_lift refusal layer = record { refusal = refusal; layer = layer; lift = None }

-- how a refusal is told, in rows too
abbrev pub refusal_text : Refusal → List ℕ
refusal_text refusal = codes "refused " ++ decimal (refusal_number refusal)

-- how a fault is told
abbrev pub fault_text : Fault → List ℕ
fault_text fault = refusal_text fault.refusal ++ lift_text fault.lift
  where
    lift_text : Option ℕ → List ℕ
    lift_text None = []
    lift_text (Some lift) = codes ", lift " ++ decimal lift

-- Conditions in the order in which they are tried, each with its fault: the first that holds refuses.
abbrev pub tried : List (Bool × Fault) → Option Fault
tried [] = None
tried (c ∷ cs) = if c.0 then Some c.1 else tried cs

abbrev pub unless_refused : {A : Type 0} → Option Fault → A → Result A Fault
unless_refused None answer = Ok answer
unless_refused (Some fault) answer = Err fault

-- a number above 511
abbrev pub too_large : Layer → ℕ → Bool × Fault
too_large layer n = (nat_lt 511 n, about NumberTooLarge layer n)

abbrev pub number_refusal : Layer → ℕ → Option Fault
number_refusal layer n = tried (too_large layer n ∷ [])

-- a lift's number, due minute of the week and duty class
abbrev pub record_refusal : ℕ → ℕ → ℕ → Option Fault
record_refusal n due class =
    tried (too_large Board n ∷ (nat_lt 10079 due || nat_lt 15 class, about DueOrClassTooLarge Board n) ∷ [])

-- a pair of two different lifts
abbrev pub pair_refusal : Layer → ℕ → ℕ → Option Fault
pair_refusal layer a b =
    tried (too_large layer a ∷ too_large layer b ∷ ((a == b), about SameLiftTwice layer a) ∷ [])
