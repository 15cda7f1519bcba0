-- The bits of a word: of none, and how many there are.
use Rattle.std.proofs.Common.{◌≡◌, ℕ, zero, suc, ◌+◌, ◌*◌, ◌/◌, ◌%◌, ◌^◌, ◌<◌, false, eqb, sym, refl, ap, ◌∙◌, pow-suc, arith}
use lib.Count.{ones, ones_in}
use Rattle.std.specs.Int.{bit_at}
use Rattle.std.proofs.lemmas.Nat.{div_below, mod_below, ones_cat, pow_pos, shr_split}
use Rattle.std.proofs.lemmas.Nat.Bits.{bit_at_cat_low, bit_at-zero}
use Rattle.conflicts.specs.Counting.{bit, count, sum}
use Rattle.conflicts.proofs.Sums.{count_same}
use Rattle.bit_matrix.specs.Matrix.{bit_of}

pub bit_none : (i : ℕ) → bit_of 0 i ≡ false
unfolding bit_of
bit_none i = ap (λ n. eqb n 1) (bit_at-zero i)

digit : (n : ℕ) → n < 2 → ones n ≡ bit (eqb (n % 2) 1)
unfolding ones ones_in
digit zero l = refl
digit (suc zero) l = refl
digit (suc (suc n)) l = absurd (omega arith)

-- how many bits are set: those below the top one, and the top one
pub weight_is : (k w : ℕ) → w < 2 ^ k → ones w ≡ count (bit_of w) k
unfolding ones ones_in sum bit_of
weight_is zero w l = let z : w ≡ 0 = omega arith in rw z
weight_is (suc k) w l =
    let double : 2 ^ suc k ≡ 2 ^ k * 2 = pow-suc 2 k in
    let top = w / 2 ^ k in
    let low = w % 2 ^ k in
    let short : low < 2 ^ k = mod_below w (2 ^ k) (pow_pos k) in
    let whole : top * 2 ^ k + low ≡ w = shr_split w k in
    let same = count_same _ _ k (λ i h. ap (λ n. eqb n 1) (sym (bit_at_cat_low top k low i h) ∙ ap (λ n. bit_at n i) whole)) in
    let below : ones low ≡ count (bit_of w) k = weight_is k low short ∙ same in
    let above : ones top ≡ bit (bit_of w k) = digit top (div_below w (2 ^ k) 2 (pow_pos k) (omega arith)) in
    let parts : ones w ≡ ones top + ones low = ap ones (sym whole) ∙ ones_cat k top low short in
    omega arith
