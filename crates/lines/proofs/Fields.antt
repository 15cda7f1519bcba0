-- Fields between commas.
use Rattle.std.proofs.Common.{◌≡◌, ◌==◌, if◌then◌else◌, ℕ, zero, suc, ◌+◌, ◌<◌, ◌≤◌, Bool, true, false, not, ◌&&◌, List, [], ◌∷◌, ◌++◌, length, get_or, take, drop, sym, refl, ap, ◌∙◌, ◌≢◌, inl, inr, arith}
use Rattle.std.proofs.lemmas.List.{take-append-drop, take_all, take_rest, drop_more, drop-drop, get_or-take, length-drop, length-take}
use Rattle.std.proofs.lemmas.Bool.{cases_lt, eqb-true}
use Rattle.std.proofs.lemmas.Bool.Decides.{nat_tests}
use Rattle.std.specs.Prelude.{slice_range}
use Rattle.lines.specs.Format.{fields, fields_from, onto}
use Rattle.lines.specs.Text.{commas}

-- no comma stands in it
abbrev pub Plain : List ℕ → Type 0
Plain f = (i : ℕ) → i < length f → get_or f i 0 ≢ 44

-- nor behind its first byte
plain_rest : (b : ℕ) (f : List ℕ) → Plain (b ∷ f) → Plain f
plain_rest b f p i h e = p (suc i) (omega arith) e

-- another byte is the first field's
fields_byte : (b : ℕ) (bs : List ℕ) → b ≢ 44 → fields (b ∷ bs) ≡ onto b (fields bs)
fields_byte b bs ne = grind (arith, nat_tests)

-- the last field, and one with a comma behind it
pub fields_last : (f : List ℕ) → Plain f → fields f ≡ f ∷ []
fields_last [] p = refl
fields_last (b ∷ f) p = rw (fields_byte b f (p 0 (omega arith)), fields_last f (plain_rest b f p)) refl

pub fields_next : (f rest : List ℕ) → Plain f → fields (f ++ (44 ∷ rest)) ≡ f ∷ fields rest
fields_next [] rest p = refl
fields_next (b ∷ f) rest p = rw (fields_byte b (f ++ (44 ∷ rest)) (p 0 (omega arith)), fields_next f rest (plain_rest b f p)) refl

abbrev pub no_comma : List ℕ → Bool
no_comma [] = true
no_comma (b ∷ f) = not (b == 44) && no_comma f

-- what passes the test has no comma
pub plain_by_test : (f : List ℕ) → no_comma f ≡ true → Plain f
plain_by_test [] h i l e = omega arith
plain_by_test (b ∷ f) h zero l e = grind (arith, nat_tests)
plain_by_test (b ∷ f) h (suc i) l e = plain_by_test f (grind arith) i (omega arith) e

-- four fields between commas are read as they are
pub fields_four : (w a b c : List ℕ) → Plain w → Plain a → Plain b → Plain c → fields (commas (w ∷ a ∷ b ∷ c ∷ [])) ≡ w ∷ a ∷ b ∷ c ∷ []
fields_four w a b c p q r s = rw (fields_next w _ p, fields_next a _ q, fields_next b c r, fields_last c s) refl

-- a line has a field
fields_some : (bs : List ℕ) → 0 < length (fields bs)
fields_some [] = omega arith
fields_some (b ∷ bs) = split (b == 44) (fields bs) (fields_some bs)
  where
    split : (t : Bool) (fs : List (List ℕ)) → 0 < length fs → 0 < length (if t then [] ∷ fs else onto b fs)
    split true fs h = omega arith
    split false [] h = h
    split false (f ∷ fs) h = omega arith

-- a line is its fields with commas between them
pub commas_fields : (bs : List ℕ) → commas (fields bs) ≡ bs
commas_fields [] = refl
commas_fields (b ∷ bs) = split (b == 44) refl (fields bs) (fields_some bs) (commas_fields bs)
  where
    split : (t : Bool) → (b == 44) ≡ t → (fs : List (List ℕ)) → 0 < length fs → commas fs ≡ bs → commas (if t then [] ∷ fs else onto b fs) ≡ b ∷ bs
    split t e [] h is = absurd (omega arith)
    split true e (f ∷ fs) h is = let c = eqb-true b 44 e in cc
    split false e (f ∷ []) h is = cc
    split false e (f ∷ g ∷ fs) h is = cc

-- what stands before the first comma
plain_take : (k : ℕ) (bs : List ℕ) → ((i : ℕ) → i < k → get_or bs i 0 ≢ 44) → Plain (take k bs)
plain_take k bs before i h e =
    let l : i < k = omega (arith, length-take k bs) in before i l (sym (get_or-take k bs i 0 l) ∙ e)

-- the first field is what stands before the first comma
first_field : (k : ℕ) (bs : List ℕ) → k ≤ length bs → ((i : ℕ) → i < k → get_or bs i 0 ≢ 44) → (k < length bs → get_or bs k 0 ≡ 44) → fields bs ≡ take k bs ∷ fields_from bs (k + 1)
first_field k bs h before comma =
    let p = plain_take k bs before in
    elim (cases_lt k (length bs)) [
      | inl l ↦
          let parts = rw (drop_more bs k 0 l, comma l) at (take-append-drop k bs) in
          ap fields (sym parts) ∙ fields_next (take k bs) (drop (k + 1) bs) p ∙ grind (arith, nat_tests)
      | inr l ↦ ap fields (sym (take_all k bs l)) ∙ fields_last (take k bs) p ∙ grind (arith, nat_tests)
    ]

-- the fields of what is left of a line
fields_from_drop : (line : List ℕ) (start n : ℕ) → start ≤ length line → fields_from (drop start line) n ≡ fields_from line (start + n)
fields_from_drop line start n h =
    let l = length-drop start line in
    let e = ap fields (drop-drop n start line) in
    grind (arith, nat_tests)

-- what the reader answers
pub fields_first : (line rest : List ℕ) (start n : ℕ) → start ≤ length line → rest ≡ slice_range line start (length line)
    → n ≤ length rest → ((i : ℕ) → i < n → get_or rest i 0 ≢ 44) → (n < length rest → get_or rest n 0 ≡ 44)
    → fields_from line start ≡ take n rest ∷ fields_from line (start + (n + 1))
fields_first line rest start n h e l before comma =
    let whole = e ∙ take_rest line start in
    let first = first_field n rest l before comma in
    let later = fields_from_drop line start (n + 1) h in
    grind (arith, nat_tests)
