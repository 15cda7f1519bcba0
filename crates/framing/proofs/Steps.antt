-- A byte more since the last line's end.
use Rattle.std.proofs.Common.{◌≡◌, ◌≢◌, ◌==◌, if◌then◌else◌, ℕ, suc, ◌-◌, ◌<◌, true, false, List, [], ◌∷◌, ◌++◌, length, get_or, take, drop, sym, refl, ap, ◌∙◌, inl, inr, arith}
use Rattle.std.proofs.lemmas.List.{append_assoc, append-nil, get_or-take, length-append, length-drop, length-take, take_at}
use Rattle.std.proofs.lemmas.Bool.{cases_Bool}
use Rattle.std.proofs.lemmas.Bool.Decides.{nat_tests}
use Rattle.framing.specs.Buffer.{Ended, Keeps, Opens, Takes, body_after, ends, ends_in_cr, held}
use Rattle.framing.specs.declared.LineBuffer.{LineBuffer}
use Rattle.framing.specs.Lines.{unbroken}
use Rattle.framing.proofs.Cuts.{unbroken_front, unbroken_push}

-- Whether the bytes end in CR.
ends_in_push : (xs : List ℕ) (b : ℕ) → ends_in_cr (xs ++ (b ∷ [])) ≡ (b == 13)
ends_in_push [] b = refl
ends_in_push (x ∷ []) b = refl
ends_in_push (x ∷ y ∷ xs) b = ends_in_push (y ∷ xs) b

-- A byte is kept or held back.
with_held : (b : ℕ) → (if b == 13 then [] else b ∷ []) ++ held (b == 13) ≡ b ∷ []
with_held b =
    elim (cases_Bool (b == 13)) [
      | inl e ↦ let s : b ≡ 13 = grind (arith, nat_tests) in rw s refl
      | inr e ↦ rw e refl
    ]

-- What `feed` does to a buffer.
module _ (v w : LineBuffer) (b : ℕ) (keeps : (body : List ℕ) → Keeps v body → Keeps w (body_after v.cr b body)) (cr : w.cr ≡ (b == 13)) where
  pub opens_more : (xs : List ℕ) → ends v.cr b ≡ false → Opens v xs → Opens w (xs ++ (b ∷ []))
  opens_more xs on o =
      let line = o.body ++ held v.cr in
      record {
        body = line ++ (if b == 13 then [] else b ∷ []);
        keeps = rw on at (keeps o.body o.keeps);
        split = rw (o.split, cr, append_assoc line, with_held) refl;
        last = ends_in_push xs b ∙ sym cr;
        xs_unbroken = let p = unbroken_push xs b in grind arith;
      }

  pub ended_more : (xs : List ℕ) → ends v.cr b ≡ true → Opens v xs → Ended w (xs ++ (b ∷ []))
  ended_more xs hit o =
      let was : v.cr ≡ true = grind arith in
      let lf : b ≡ 10 = grind (arith, nat_tests) in
      let is : xs ≡ o.body ++ (13 ∷ []) = rw was at o.split in
      record {
        body = o.body;
        keeps = rw hit at (keeps o.body o.keeps);
        split = rw (is, append_assoc, lf) refl;
        none_held = grind (arith, nat_tests);
        body_unbroken = unbroken_front o.body 13 (rw is at o.xs_unbroken);
      }

-- Bytes that are no CR, behind bytes that end in none.
pub record Plain (xs : List ℕ) : Type 0 where
  pub last : ends_in_cr xs ≡ false
  pub none : unbroken xs ≡ true

-- Such bytes more.
plain_appended : (xs ys : List ℕ) → Plain xs → ((k : ℕ) → k < length ys → get_or ys k 0 ≢ 13) → Plain (xs ++ ys)
plain_appended xs [] p n = rw append-nil p
plain_appended xs (y ∷ ys) p n =
    let e = ends_in_push xs y in
    let u = unbroken_push xs y in
    let h : y ≢ 13 = n 0 (omega arith) in
    let q : Plain (xs ++ (y ∷ [])) = record { last = grind (arith, nat_tests); none = grind (arith, nat_tests) } in
    rw (append_assoc xs (y ∷ []) ys) at (plain_appended (xs ++ (y ∷ [])) ys q (λ k l. n (suc k) (omega arith)))

-- What `push_all` does where no CR is held back, for bytes that are none.
pub plain_more : (v w : LineBuffer) (ys : List ℕ) → ((body : List ℕ) → Keeps v body → Keeps w (body ++ ys)) → w.cr ≡ v.cr → v.cr ≡ false
    → ((k : ℕ) → k < length ys → get_or ys k 0 ≢ 13) → (xs : List ℕ) → Opens v xs → Opens w (xs ++ ys)
plain_more v w ys keeps same none n xs o =
    let p = plain_appended xs ys (record { last = o.last ∙ none; none = o.xs_unbroken }) n in
    let clear = same ∙ none in
    record {
      body = o.body ++ ys;
      keeps = keeps o.body o.keeps;
      split = rw (o.split, clear, none) (simp append-nil);
      last = p.last ∙ sym clear;
      xs_unbroken = p.none;
    }

-- One part was taken after another.
pub taken_on : {v w z : LineBuffer} {bytes middle rest : List ℕ} → Takes v w bytes middle → Takes w z middle rest → Takes v z bytes rest
taken_on {v} {w} {z} {bytes} {middle} {rest} s t =
    record {
      taken = s.taken ++ t.taken;
      parts = rw (append_assoc, ← t.parts) s.parts;
      line = λ xs o. rw (append_assoc xs s.taken t.taken) at (t.line (xs ++ s.taken) (s.line xs o));
    }

-- What is said of the first bytes holds of them as a list.
pub plain_taken : (bytes : List ℕ) (n : ℕ) → ((k : ℕ) → k < n → get_or bytes k 0 ≢ 13) → (k : ℕ) → k < length (take n bytes) → get_or (take n bytes) k 0 ≢ 13
plain_taken bytes n f k l = grind (arith, nat_tests, length-take n bytes, get_or-take n bytes k 0, f k)

-- The part of a block from a place to a byte.
pub taken_part : (block taken after : List ℕ) (at b : ℕ) → drop at block ≡ taken ++ (b ∷ after) → taken ++ (b ∷ []) ≡ take (length block - length after - at) (drop at block)
taken_part block taken after at b h =
    let front = taken ++ (b ∷ []) in
    let e : drop at block ≡ front ++ after = h ∙ sym (append_assoc taken (b ∷ []) after) in
    rw e (sym (take_at front after _ (omega (arith, ap length e, length-append front after, length-drop at block))))
