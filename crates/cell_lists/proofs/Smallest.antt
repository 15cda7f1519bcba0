-- The smallest number of a list that is at least `from`.
use Rattle.std.proofs.Common.{◌≡◌, ℕ, ◌<◌, ◌≤◌, min, Bool, true, List, [], ◌∷◌, leb, Some, None, Option, ◌⊎◌, sym, refl, inl, inr, arith}
use Rattle.std.specs.List.{All, Contains, filter, fold, reduce}
use Rattle.std.proofs.lemmas.List.Elements.{All-cons, All-contains, All-contains_itself, All-filter, All-head, All-nil, All-same, All-tail, All-weaker, Contains-append_right, filter_passes}
use Rattle.std.proofs.lemmas.Bool.{both_ways, cases_Bool, cases_lt, le-leb, leb-true}

-- r is the smallest one of xs that is at least `from`
abbrev pub Smallest : ℕ → List ℕ → Option ℕ → Type 0
Smallest from xs (Some q) = (from ≤ q) × Contains xs q × All (λ n. from ≤ n → q ≤ n) xs
Smallest from xs None = All (λ n. n < from) xs

-- q is the smallest of a and xs
record Least (a : ℕ) (xs : List ℕ) (q : ℕ) : Type 0 where
  first : q ≤ a
  rest : All (λ n. q ≤ n) xs
  one : (q ≡ a) ⊎ Contains xs q

later : (a x q : ℕ) (xs : List ℕ) → (q ≡ min a x) ⊎ Contains xs q → (q ≡ a) ⊎ Contains (x ∷ xs) q
later a x q xs (inl e) = elim (cases_lt a x) [ inl l ↦ inl (omega arith) | inr g ↦ inr (0, omega arith, omega arith) ]
later a x q xs (inr s) = inr (Contains-append_right (x ∷ []) xs q s)

least : (a : ℕ) (xs : List ℕ) → Least a xs (fold min a xs)
least a [] = record { first = omega arith; rest = All-nil (λ n. a ≤ n); one = inl refl }
least a (x ∷ xs) =
    let q = fold min (min a x) xs in
    let s = least (min a x) xs in
    let low = s.first in
    record { first = omega arith; rest = All-cons (λ n. q ≤ n) x xs (omega arith) s.rest; one = later a x q xs s.one }

-- what holds of all that pass the test
unfiltered : (test : ℕ → Bool) (P : ℕ → Type 0) (xs : List ℕ) → All P (filter test xs) → All (λ n. test n ≡ true → P n) xs
unfiltered test P [] h = All-nil (λ n. test n ≡ true → P n)
unfiltered test P (x ∷ xs) h = elim (cases_Bool (test x)) [
  | inl y ↦
      let k : All P (x ∷ filter test xs) = rw y at h in
      All-cons (λ n. test n ≡ true → P n) x xs (λ _. All-head P x (filter test xs) k) (unfiltered test P xs (All-tail P x (filter test xs) k))
  | inr n ↦ All-cons (λ n. test n ≡ true → P n) x xs (λ y. absurd (both_ways (test x) n y)) (unfiltered test P xs (rw n at h))
]

smallest_of : (from : ℕ) (xs ys : List ℕ) → ys ≡ filter (leb from) xs → Smallest from xs (reduce min ys)
smallest_of from xs [] e =
    All-weaker (λ n. leb from n ≡ true → ⊥) (λ n. n < from)
    (λ n h. elim (cases_lt n from) [ inl l ↦ l | inr l ↦ absurd (h (le-leb from n l)) ])
    xs (unfiltered (leb from) (λ _. ⊥) xs (All-same (λ _. ⊥) (filter (leb from) xs) [] (sym e) (All-nil (λ _. ⊥))))
smallest_of from xs (y ∷ ys) e =
    let q = fold min y ys in
    let s = least y ys in
    let one : Contains (y ∷ ys) q = elim s.one [ inl k ↦ (0, omega arith, sym k) | inr k ↦ Contains-append_right (y ∷ []) ys q k ] in
    let passes : All (λ n. leb from n ≡ true) (y ∷ ys) = All-same (λ n. leb from n ≡ true) (y ∷ ys) (filter (leb from) xs) e (filter_passes (leb from) xs) in
    let inside : All (Contains xs) (y ∷ ys) = All-same (Contains xs) (y ∷ ys) (filter (leb from) xs) e (All-filter (leb from) (Contains xs) xs (All-contains_itself xs)) in (
      leb-true from q (All-contains (λ n. leb from n ≡ true) (y ∷ ys) q passes one),
      All-contains (Contains xs) (y ∷ ys) q inside one,
      All-weaker (λ n. leb from n ≡ true → q ≤ n) (λ n. from ≤ n → q ≤ n) (λ n h l. h (le-leb from n l)) xs
          (unfiltered (leb from) (λ n. q ≤ n) xs (All-same (λ n. q ≤ n) (filter (leb from) xs) (y ∷ ys) (sym e) (All-cons (λ n. q ≤ n) y ys s.first s.rest))),
    )

pub smallest : (from : ℕ) (xs : List ℕ) → Smallest from xs (reduce min (filter (leb from) xs))
smallest from xs = smallest_of from xs (filter (leb from) xs) refl
