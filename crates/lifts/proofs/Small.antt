-- Numbers of two digits.
use Rattle.std.proofs.Common.{◌<◌, arith}
use Rattle.lifts.specs.Numbers.{refusal_number}
use Rattle.lifts.specs.declared.fault.Refusal.{Refusal}

pub refusal_below_100 : (r : Refusal) → refusal_number r < 100
refusal_below_100 r = grind arith
