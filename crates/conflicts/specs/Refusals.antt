-- What refuses a call of a conflict graph, in the order in which it is tried.
use Rattle.std.specs.Prelude.{ℕ, not, [], ◌∷◌, Option, ◌==◌, nat_le, nat_lt}
use Rattle.lifts.specs.Faults.{about, without_lift, too_large, tried}
use Rattle.lifts.specs.declared.fault.Fault.{Fault}
use Rattle.lifts.specs.declared.fault.Layer.TheVariants.{Book, Setup}
use Rattle.lifts.specs.declared.fault.Refusal.TheVariants.{TooLittleMemory, SameLiftTwice, ClashStands, NoSuchClash, GraphFull}
use Rattle.conflicts.specs.Graphs.{Graph, edge_count}

-- a pair that is to stand, in a graph with a capacity
abbrev pub insert_refusal : Graph → ℕ → ℕ → ℕ → Option Fault
insert_refusal g capacity a b =
    tried (too_large Book a
    ∷ too_large Book b
    ∷ ((a == b), about SameLiftTwice Book a)
    ∷ (g a b, about ClashStands Book a)
    ∷ (nat_le capacity (edge_count g), about GraphFull Book a)
    ∷ [])

-- a pair that is to stand no longer
abbrev pub remove_refusal : Graph → ℕ → ℕ → Option Fault
remove_refusal g a b =
    tried (too_large Book a
    ∷ too_large Book b
    ∷ ((a == b), about SameLiftTwice Book a)
    ∷ (not (g a b), about NoSuchClash Book a)
    ∷ [])

-- two numbers that are asked about
abbrev pub numbers_refusal : ℕ → ℕ → Option Fault
numbers_refusal a b = tried (too_large Book a ∷ too_large Book b ∷ [])

-- memory of n units, where a graph is to stand on at least `needed`
abbrev pub memory_refusal : ℕ → ℕ → Option Fault
memory_refusal needed n = tried ((nat_lt n needed, without_lift TooLittleMemory Setup) ∷ [])
