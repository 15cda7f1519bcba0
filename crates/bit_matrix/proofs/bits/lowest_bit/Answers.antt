use Rattle.std.specs.Int.{w64}
use Rattle.std.proofs.Common.{◌≡◌, true, not, ◌==◌, nat_eq, ap, inl, inr, arith}
use Rattle.std.proofs.lemmas.Bool.{cases_eq}
use Rattle.std.proofs.lemmas.Bool.Decides.{nat_tests}
use Rattle.std.proofs.lemmas.Nat.Bits.{bit_at-trailing_zeros}
use Rattle.bit_matrix.specs.Matrix.{bit_of}
use Rattle.bit_matrix.proofs.Words.{bit_none}
use Rattle.bit_matrix.proofs.bits.lowest_bit.Goals as goal

pub returns-clause-lowest : goal.returns-clause-lowest
unfolding bit_of
returns-clause-lowest c =
    elim (cases_eq c.args.word 0) [
      | inl z ↦ rw (c.then_some.ensures, z) (λ k _. bit_none k)
      | inr n ↦
          let some : not (nat_eq c.args.word 0) ≡ true = grind (arith, nat_tests) in
          let found = bit_at-trailing_zeros w64 c.args.word (omega arith) (omega arith) in
          rw (c.then_some.ensures, some) (omega arith, ap (λ n. n == 1) found.1, λ k _ l. ap (λ n. n == 1) (found.2 k l))
    ]
