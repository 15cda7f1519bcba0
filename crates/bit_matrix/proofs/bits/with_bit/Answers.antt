use Rattle.std.proofs.Common.{arith}
use Rattle.std.specs.Int.{w64}
use Rattle.std.proofs.lemmas.Bool.Decides.{nat_tests}
use Rattle.std.proofs.lemmas.Nat.Bits.{bit_at_clear_other, bit_at_clear_same, bit_at_set_other, bit_at_set_same}
use Rattle.bit_matrix.specs.Matrix.{bit_of}
use Rattle.bit_matrix.proofs.bits.with_bit.Goals as goal

pub returns-then-stands : goal.returns-then-stands
unfolding bit_of
returns-then-stands c i _ =
    let same = bit_at_set_same w64 c.args.word c.args.k c.requires in
    let other = bit_at_set_other w64 c.args.word c.args.k c.requires i in
    grind (arith, nat_tests)

pub returns-else-stands : goal.returns-else-stands
unfolding bit_of
returns-else-stands c i l =
    let same = bit_at_clear_same w64 c.args.word c.args.k c.requires in
    let other = bit_at_clear_other w64 c.args.word c.args.k c.requires i l in
    grind (arith, nat_tests)
