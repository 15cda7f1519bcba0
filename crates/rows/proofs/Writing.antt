-- What stands where after a piece was written.
use Rattle.std.proofs.Common.{◌≡◌, ℕ, ◌+◌, ◌≤◌, List, [], ◌++◌, length, take, drop, refl, append_assoc, arith}
use borrow.Rule.Slice.PartMut.{put_mid}
use Rattle.std.proofs.lemmas.List.{drop_at, length-append, length-take-le, length-drop, take-append-drop, take-append-le, take-take, take_at, drop-drop}
use Rattle.std.proofs.lemmas.Slice.{drop-append-drop}
use Rattle.rows.specs.Texts.{written}

-- a part of the bytes that took a copy
pub put_mid_written : (a k : ℕ) (xs ys : List ℕ) → length ys ≡ k → put_mid a k xs ys ≡ written xs a ys
unfolding written
put_mid_written a k xs ys e = rw (← e, drop-drop) refl

-- the empty piece changes nothing
pub written_nothing : (bs : List ℕ) (e : ℕ) → written bs e [] ≡ bs
unfolding written
written_nothing bs e = grind (arith, take-append-drop e bs)

-- the bytes before the piece
pub take_written : (bs : List ℕ) (e : ℕ) (p : List ℕ) (k : ℕ) → k ≤ e → e ≤ length bs → take k (written bs e p) ≡ take k bs
unfolding written
take_written bs e p k h l =
    rw (take-append-le k (take e bs) _ (simp length-take-le (omega arith))) (take-take k e bs h)

-- the text with the piece
pub text_written : (bs : List ℕ) (e : ℕ) (p : List ℕ) → e ≤ length bs → take (e + length p) (written bs e p) ≡ take e bs ++ p
unfolding written
text_written bs e p l =
    rw (← append_assoc) (take_at (take e bs ++ p) _ _ (simp (length-append, length-take-le)))

-- the piece, and what stands behind it
pub drop_written : (bs : List ℕ) (e : ℕ) (p : List ℕ) → e ≤ length bs → drop e (written bs e p) ≡ p ++ drop (e + length p) bs
unfolding written
drop_written bs e p l = drop_at (take e bs) _ e (length-take-le e bs l)

-- the bytes behind the piece
pub behind_written : (bs : List ℕ) (e : ℕ) (p : List ℕ) (k : ℕ) → e + length p ≤ k → e ≤ length bs → drop k (written bs e p) ≡ drop k bs
unfolding written
behind_written bs e p k h l =
    rw (← append_assoc) (drop-append-drop (e + length p) bs (take e bs ++ p) k h (simp (length-append, length-take-le)))

-- a piece that fits changes no length
pub length_written : (bs : List ℕ) (e : ℕ) (p : List ℕ) → e + length p ≤ length bs → length (written bs e p) ≡ length bs
unfolding written
length_written bs e p l =
    let h : e ≤ length bs = omega arith in
    simp (length-append, length-take-le, length-drop) (omega arith)

-- two pieces, one behind the other, are one
pub written_twice : (bs : List ℕ) (e : ℕ) (p q : List ℕ) → e ≤ length bs → written (written bs e p) (e + length p) q ≡ written bs e (p ++ q)
unfolding written
written_twice bs e p q l =
    let n : e + length p + length q ≡ e + length (p ++ q) = simp length-append (omega arith) in
    rw (text_written bs e p l, behind_written bs e p (e + length p + length q) (omega arith) l, n) (simp append_assoc)
