-- The numbers of the cases that files, rows and callers know by number.
use Rattle.std.specs.Prelude.{ℕ}
use Rattle.lifts.specs.declared.fault.Refusal.{Refusal}
use Rattle.lifts.specs.declared.fault.Refusal.TheVariants.{ThresholdOutOfRange, TooLittleMemory, NumberTooLarge, AlreadyOnBoard, NotOnBoard, SameLiftTwice, ClashStands, NoSuchClash, DueOrClassTooLarge, GraphFull, ChangeLimitReached, ListFull, TextFull, MalformedLine, LineNumberOutOfRange}
use Rattle.lifts.specs.declared.state.State.{State}
use Rattle.lifts.specs.declared.state.State.TheVariants.{Released, Held, Off}

abbrev pub refusal_number : Refusal → ℕ
refusal_number ThresholdOutOfRange = 1
refusal_number TooLittleMemory = 2
refusal_number NumberTooLarge = 3
refusal_number AlreadyOnBoard = 4
refusal_number NotOnBoard = 5
refusal_number SameLiftTwice = 6
refusal_number ClashStands = 7
refusal_number NoSuchClash = 8
refusal_number DueOrClassTooLarge = 9
refusal_number GraphFull = 10
refusal_number ChangeLimitReached = 11
refusal_number ListFull = 12
refusal_number TextFull = 13
refusal_number MalformedLine = 14
refusal_number LineNumberOutOfRange = 15

abbrev pub state_number : State → ℕ
state_number Released = 1
state_number Held = 2
state_number Off = 3
