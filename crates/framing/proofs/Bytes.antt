-- More bytes in a line.
use Rattle.std.proofs.Common.{◌≡◌, ℕ, ◌+◌, ◌<◌, ◌≤◌, min, List, [], ◌∷◌, ◌++◌, length, take, sym, refl, ap, ◌∙◌, arith, inl, inr}
use Rattle.std.proofs.lemmas.Bool.{cases_lt}
use Rattle.std.proofs.lemmas.List.{append-nil, length_push, length-take, take_all, take_min, take-append-le}
use Rattle.std.proofs.Math.Seq.{take-append-add}

-- Of a line's body the first 65 bytes are kept, and there is room for the rest of them.
pub keeps_all : (body bytes : List ℕ) (room : ℕ) → room + length (take 65 body) ≡ 65 → take 65 body ++ take (min room (length bytes)) bytes ≡ take 65 (body ++ bytes)
keeps_all body bytes room r =
    let t = length-take 65 body in
    elim (cases_lt (length body) 65) [
      | inl s ↦
          let whole : length body + room ≡ 65 = omega arith in
          rw (take_min, take_all 65 body (omega arith), ← whole) (sym (take-append-add body bytes room))
      | inr s ↦ let none : room ≡ 0 = omega arith in rw (take_min, none, append-nil, take-append-le 65 body bytes s) refl
    ]

-- A byte more, where there is room for it.
pub keeps_one : (kept body : List ℕ) (b : ℕ) → kept ≡ take 65 body → length kept < 65 → kept ++ (b ∷ []) ≡ take 65 (body ++ (b ∷ []))
keeps_one kept body b k l =
    let t = length-take 65 body in
    let s : length body < 65 = omega (arith, ap length k) in
    rw (k, take_all 65 body (omega arith)) (sym (take_all 65 (body ++ (b ∷ [])) (omega (arith, length_push body b))))

-- And where there is none.
pub keeps_full : (kept body bytes : List ℕ) → kept ≡ take 65 body → 65 ≤ length kept → kept ≡ take 65 (body ++ bytes)
keeps_full kept body bytes k f = let t = length-take 65 body in k ∙ sym (take-append-le 65 body bytes (omega (arith, ap length k)))
