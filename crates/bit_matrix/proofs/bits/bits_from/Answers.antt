use Rattle.std.proofs.Common.{arith}
use Rattle.std.proofs.lemmas.Bool.Decides.{nat_tests}
use Rattle.std.proofs.lemmas.Nat.Bits.{bit_at-lt, bit_at-zero, bit_at_above, bit_at_and, bit_at_mask_below, bit_at_mask_inside, ones_shl}
use Rattle.bit_matrix.specs.Matrix.{bit_of}
use Rattle.bit_matrix.proofs.bits.bits_from.Goals as goal

-- Nothing is left where `from` is 64 or more.
pub returns : goal.returns
unfolding bit_of
returns c i =
    let digit = bit_at-lt c.args.word i in
    let past = bit_at_above c.args.word 64 i (omega arith) in
    let shifted = ones_shl 64 c.args.from in
    let below = bit_at_mask_below c.args.from 64 i in
    let inside = bit_at_mask_inside c.args.from 64 i in
    grind (arith, nat_tests, bit_at_and, bit_at-zero)
