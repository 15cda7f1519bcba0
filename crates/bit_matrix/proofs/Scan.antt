-- Going along a row word by word.
use Rattle.std.proofs.Common.{◌≡◌, ℕ, zero, suc, ◌+◌, ◌-◌, ◌*◌, ◌/◌, ◌%◌, ◌<◌, ◌≤◌, Bool, false, Some, None, List, [], ◌∷◌, length, drop, get_or, sym, ap, ◌∙◌, inl, inr, arith}
use Rattle.std.proofs.lemmas.Bool.{cases_lt, cond_both}
use Rattle.std.proofs.lemmas.List.{get_or-drop, get_or_past, length-drop, length-take, take_rest}
use Rattle.std.proofs.lemmas.List.Sums.{sum_by-cons}
use Rattle.conflicts.specs.Counting.{bit, count}
use Rattle.conflicts.specs.Graphs.{SmallestFrom, degree}
use Rattle.conflicts.proofs.Sums.{count_none, count_same, sum_split}
use Rattle.std.specs.Prelude.{slice_range}
use Rattle.bit_matrix.specs.Matrix.{bit_of, marked, row_of, suffices, weight_of}
use Rattle.bit_matrix.proofs.Rows.{row_bits}
use Rattle.bit_matrix.proofs.Words.{bit_none}

-- past the row's end there is no bit
row_past : (row : List ℕ) (p : ℕ → Bool) → ((k i : ℕ) → i < 64 → bit_of (get_or row k 0) i ≡ p (k * 64 + i))
    → (q : ℕ) → length row * 64 ≤ q → p q ≡ false
row_past row p bits q l =
    let e : q ≡ q / 64 * 64 + q % 64 = omega arith in
    ap p e ∙ sym (bits (q / 64) (q % 64) (omega arith))
    ∙ ap (λ w. bit_of w (q % 64)) (get_or_past row (q / 64) 0 (omega arith))
    ∙ bit_none (q % 64)

-- the bits of at most n words
row_weighs : (n : ℕ) (row : List ℕ) (p : ℕ → Bool) → length row ≤ n
    → ((k i : ℕ) → i < 64 → bit_of (get_or row k 0) i ≡ p (k * 64 + i)) → weight_of row ≡ count p (n * 64)
row_weighs n [] p l bits = sym (count_none p (n * 64) (λ q _. row_past [] p bits q (omega arith)))
row_weighs zero (w ∷ row) p l bits = absurd (omega arith)
row_weighs (suc n) (w ∷ row) p l bits =
    let up : suc n * 64 ≡ 64 + n * 64 = omega arith in
    let first : count (bit_of w) 64 ≡ count p 64 = count_same (bit_of w) p 64 (λ i m. bits 0 i m ∙ ap p (omega arith)) in
    let rest : weight_of row ≡ count (λ q. p (64 + q)) (n * 64) =
    row_weighs n row (λ q. p (64 + q)) (omega arith) (λ k i m. bits (suc k) i m ∙ ap p (omega arith)) in
    let split = sum_split (λ x. bit (p x)) 64 (n * 64) in
    sum_by-cons (λ v. count (bit_of v) 64) w row ∙ (omega arith) ∙ sym (ap (count p) up)

pub row_degree : (ws : List ℕ) (a : ℕ) → a < 512 → weight_of (row_of ws a) ≡ degree (marked ws) a
row_degree ws a l =
    let short : length (row_of ws a) ≤ 8 =
    cond_both (suffices ws) _ _ (λ row. length row ≤ 8) (λ _. omega (arith, length-take 8 (drop (a * 8) ws))) (λ _. omega arith) in
    row_weighs 8 (row_of ws a) (marked ws a) short (λ k i. row_bits ws a k i l)

-- the words of a row from a place on
later_word : (row rest : List ℕ) (start k : ℕ) → rest ≡ slice_range row start (length row) → get_or rest k 0 ≡ get_or row (start + k) 0
later_word row rest start k e = ap (λ l. get_or l k 0) (e ∙ take_rest row start) ∙ get_or-drop start row k 0

-- the first of them, and those behind it
module _ (row rest later : List ℕ) (start w : ℕ) (e : rest ≡ slice_range row start (length row)) (p : rest ≡ w ∷ later) where
  pub first_word : w ≡ get_or row start 0
  first_word =
      let n : start + 0 ≡ start = omega arith in
      sym (ap (λ l. get_or l 0 0) p) ∙ later_word row rest start 0 e ∙ ap (λ i. get_or row i 0) n

  pub next_word : (k : ℕ) → get_or later k 0 ≡ get_or row (start + 1 + k) 0
  next_word k =
      let n : start + suc k ≡ start + 1 + k = omega arith in
      sym (ap (λ l. get_or l (suc k) 0) p) ∙ later_word row rest start (suc k) e ∙ ap (λ i. get_or row i 0) n

  pub row_long : length row ≡ start + 1 + length later
  row_long = omega (arith, ap length p, ap length (e ∙ take_rest row start), length-drop start row)

-- there are none
pub no_words : (row rest : List ℕ) (start : ℕ) → rest ≡ slice_range row start (length row) → length rest ≡ 0 → length row ≤ start
no_words row rest start e none = omega (arith, none, ap length (e ∙ take_rest row start), length-drop start row)

-- None from `from` on stands in row a before word k.
module _ (ws : List ℕ) (a k from : ℕ) (la : a < 512) (before : (q : ℕ) → from ≤ q → q < k * 64 → marked ws a q ≡ false) where
  passed : (q : ℕ) → from ≤ q → q < k * 64 + 64 → (k * 64 ≤ q → bit_of (get_or (row_of ws a) k 0) (q - k * 64) ≡ false) → marked ws a q ≡ false
  passed q l m off = elim (cases_lt q (k * 64)) [
    | inl h ↦ before q l h
    | inr h ↦
        let e : q ≡ k * 64 + (q - k * 64) = omega arith in
        ap (marked ws a) e ∙ sym (row_bits ws a k (q - k * 64) la (omega arith)) ∙ off h
  ]

  pub scan_on : SmallestFrom (bit_of (get_or (row_of ws a) k 0)) (from - k * 64) None → (q : ℕ) → from ≤ q → q < (k + 1) * 64 → marked ws a q ≡ false
  scan_on none q l m = passed q l (omega arith) (λ h. none (q - k * 64) (omega arith))

  pub scan_found : (i : ℕ) → i < 64 → SmallestFrom (bit_of (get_or (row_of ws a) k 0)) (from - k * 64) (Some i) → SmallestFrom (marked ws a) from (Some (k * 64 + i))
  scan_found i short first =
      let at = first.0 in (
        omega arith,
        sym (row_bits ws a k i la short) ∙ first.1,
        λ q l m. passed q l (omega arith) (λ h. first.2 (q - k * 64) (omega arith) (omega arith)),
      )

  -- and k is past the row's last word
  pub scan_done : length (row_of ws a) ≤ k → SmallestFrom (marked ws a) from None
  scan_done past q l = elim (cases_lt q (k * 64)) [
    | inl h ↦ before q l h
    | inr h ↦ row_past (row_of ws a) (marked ws a) (λ k i. row_bits ws a k i la) q (omega arith)
  ]
