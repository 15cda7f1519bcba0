-- The bits of the matrix, read and written by the word.
use Rattle.std.proofs.Common.{◌≡◌, ℕ, ◌+◌, ◌*◌, ◌/◌, ◌%◌, ◌<◌, ◌≤◌, Bool, true, false, cond, eqb, leb, List, ◌++◌, length, get_or, take, drop, set, sym, ap, ◌∙◌, inl, inr, arith, length-set, get_or-set_other, get_or-set_same, drop-set-lt}
use Rattle.std.proofs.lemmas.List.{drop_at, get_or-drop, get_or-take, get_or_append_left, get_or_past, length-append, length-drop, length-take}
use Rattle.std.proofs.lemmas.Bool.{cases_eq, leb-false}
use Rattle.std.proofs.lemmas.Bool.Decides.{nat_tests}
use Rattle.bit_matrix.specs.Matrix.{Cleared, Framed, bit_of, capacity_of, marked, row_of, suffices, with_entry}
use Rattle.bit_matrix.proofs.Words.{bit_none}

-- the word of an entry
abbrev pub place : ℕ → ℕ → ℕ
place x y = x * 8 + y / 64

pub marked_short : (ws : List ℕ) (x y : ℕ) → suffices ws ≡ false → marked ws x y ≡ false
unfolding marked
marked_short ws x y h = grind (arith, nat_tests)

-- the words of row a
pub row_bits : (ws : List ℕ) (a k i : ℕ) → a < 512 → i < 64 → bit_of (get_or (row_of ws a) k 0) i ≡ marked ws a (k * 64 + i)
unfolding marked
row_bits ws a k i la li =
    let word : (k * 64 + i) / 64 ≡ k = omega arith in
    let column : (k * 64 + i) % 64 ≡ i = omega arith in
    let inner = get_or-take 8 (drop (a * 8) ws) k 0 in
    let outer = get_or-drop (a * 8) ws k 0 in
    let past = get_or_past (take 8 (drop (a * 8) ws)) k 0 in
    let short = length-take 8 (drop (a * 8) ws) in
    let none = bit_none i in
    rw (word, column) (grind (arith, nat_tests))

pub marked_clear : (ws : List ℕ) → (suffices ws ≡ true → (k : ℕ) → k < 4096 → get_or ws k 0 ≡ 0) → (x y : ℕ) → marked ws x y ≡ false
unfolding marked
marked_clear ws h x y =
    let none = bit_none (y % 64) in
    let word = λ (enough : suffices ws ≡ true). h enough (place x y) in
    grind (arith, nat_tests)

-- One word is written, and bit b % 64 of it alone changes: so does the matrix at the entry of a and b.
module _ (ws : List ℕ) (a b at v : ℕ) (stands : Bool) (is : at ≡ place a b) (enough : suffices ws ≡ true) (la : a < 512) (lb : b < 512)
    (bits : (i : ℕ) → i < 64 → bit_of v i ≡ cond (eqb i (b % 64)) stands (bit_of (get_or ws at 0) i)) where
  pub marked_written : (x y : ℕ) → marked (set ws at v) x y ≡ with_entry (marked ws) a b stands x y
  unfolding marked
  marked_written x y =
      let same = get_or-set_same ws at v 0 in
      let other = get_or-set_other ws at (place x y) v 0 in
      let long = length-set ws at v in
      let changed = bits (y % 64) (omega arith) in
      elim (cases_eq (place x y) at) [
        | inl e ↦ grind (arith, nat_tests)
        | inr n ↦ grind (arith, nat_tests)
      ]

pub framed_set : (ws : List ℕ) (i v : ℕ) → i < 4096 → Framed ws (set ws i v)
framed_set ws i v l = record { as_long = length-set ws i v; beyond = drop-set-lt 4096 ws i v l }

-- The first 4,096 words are exchanged for zeros.
pub cleared_front : (ws zs : List ℕ) → 4096 ≤ length ws → length zs ≡ 4096 → ((k : ℕ) → k < 4096 → get_or zs k 0 ≡ 0) → Cleared ws (zs ++ drop 4096 ws)
cleared_front ws zs long n none = record {
  zero_bits = λ _ k l. get_or_append_left zs (drop 4096 ws) 0 k (omega arith) ∙ none k l;
  untouched = λ few. absurd (omega (arith, leb-false));
  framed = record { as_long = omega (arith, length-append {A = ℕ}, length-drop {A = ℕ}); beyond = drop_at zs (drop 4096 ws) 4096 n };
}

pub cleared_empty : (ws ws' : List ℕ) → Cleared ws ws' → (x y : ℕ) → marked ws' x y ≡ false
cleared_empty ws ws' c = marked_clear ws' (λ enough. c.zero_bits (ap (leb 4096) (sym c.framed.as_long) ∙ enough))

pub capacity_kept : (ws ws' : List ℕ) → Framed ws ws' → capacity_of ws' ≡ capacity_of ws
capacity_kept ws ws' f = ap (λ n. cond (leb 4096 n) 130816 0) f.as_long

-- where a pair stands there are words enough
pub marked_suffices : (ws : List ℕ) (x y : ℕ) → marked ws x y ≡ true → suffices ws ≡ true
unfolding marked
marked_suffices ws x y on = grind (arith, nat_tests)
