-- The laws that hold of all words, for the ghost members that are these laws.
use Rattle.std.specs.Prelude.{◌≡◌, ℕ, ◌+◌, ◌*◌, ◌/◌, ◌%◌, ◌<◌, false, ◌&&◌, List, nat_lt, slice_index, refl}
use Rattle.std.proofs.Common.{ap, ◌∙◌}
use Rattle.std.proofs.lemmas.Bool.{le-ltb}
use Rattle.bit_matrix.specs.Matrix.{Framed, bit_of, marked, suffices}

-- No number above 511 has a neighbour.
pub marked_bounded : (words : List ℕ) (x y : ℕ) → 511 < x → marked words x y ≡ false
unfolding marked
marked_bounded words x y h =
    ap (λ t. ((t && nat_lt y 512) && suffices words) && bit_of (slice_index words (x * 8 + y / 64)) (y % 64)) (le-ltb x 512 h)

pub framed_same : (words : List ℕ) → Framed words words
framed_same words = record { as_long = refl; beyond = refl }

pub framed_on : (a b c : List ℕ) → Framed a b → Framed b c → Framed a c
framed_on a b c p q = record { as_long = q.as_long ∙ p.as_long; beyond = q.beyond ∙ p.beyond }
