-- When a pair stands: some place of the chain names the neighbour.
use Rattle.std.proofs.Common.{◌≡◌, ℕ, ◌<◌, Bool, true, false, ◌&&◌, eqb, ltb, Decides, refl, inl, inr, arith}
use Rattle.std.proofs.lemmas.Bool.Decides.{Decides-below_or, same_from_decides}
use Rattle.std.proofs.lemmas.Bool.{and_from, and_parts, cases_Bool, eq-eqb, eqb-true, lt-ltb, ltb-true}
use Rattle.conflicts.specs.Graphs.{Bounded}
use Rattle.cell_lists.specs.Chains.{Stands, View, holds, named, some_below}

pub some_decides : (p : ℕ → Bool) (n : ℕ) → Decides (some_below p n) ((k : ℕ) × (k < n) × (p k ≡ true))
unfolding some_below
some_decides p n = Decides-below_or p (λ k. p k ≡ true) (some_below p) (λ k. (λ e. e, λ e. e)) refl (λ _. refl) n

pub agree : (b c : Bool) → (b ≡ true → c ≡ true) → (c ≡ true → b ≡ true) → b ≡ c
agree b c h k = same_from_decides {P = c ≡ true} b c (h, k) ((λ e. e), (λ e. e))

-- ---- a place names the neighbour

pub holds_in : (v : View) (x y j : ℕ) → x < 512 → y < 512 → j < v.count x → named v x j ≡ y → holds v x y ≡ true
unfolding holds
holds_in v x y j lx ly lj e =
    and_from (ltb x 512 && ltb y 512) (some_below (λ i. eqb (named v x i) y) (v.count x))
    (and_from (ltb x 512) (ltb y 512) (lt-ltb x 512 lx) (lt-ltb y 512 ly))
    ((some_decides (λ i. eqb (named v x i) y) (v.count x)).1 (j, lj, eq-eqb (named v x j) y e))

pub record Found (v : View) (x y : ℕ) : Type 0 where
  pub j : ℕ
  pub left : x < 512
  pub right : y < 512
  pub within : j < v.count x
  pub names : named v x j ≡ y

pub holds_out : (v : View) (x y : ℕ) → holds v x y ≡ true → Found v x y
unfolding holds
holds_out v x y h =
    let p = and_parts (ltb x 512 && ltb y 512) (some_below (λ i. eqb (named v x i) y) (v.count x)) h in
    let q = and_parts (ltb x 512) (ltb y 512) p.0 in
    let s = (some_decides (λ i. eqb (named v x i) y) (v.count x)).0 p.1 in
    record { j = s.0; left = ltb-true x 512 q.0; right = ltb-true y 512 q.1; within = s.1; names = eqb-true (named v x s.0) y s.2 }

pub holds_not : (v : View) (x y : ℕ) → ((j : ℕ) → x < 512 → y < 512 → j < v.count x → named v x j ≡ y → ⊥) → holds v x y ≡ false
holds_not v x y d = elim (cases_Bool (holds v x y)) [
  | inl e ↦ let f = holds_out v x y e in absurd (d f.j f.left f.right f.within f.names)
  | inr e ↦ e
]

pub holds_bounded : (v : View) → Bounded (holds v)
holds_bounded v x y l = holds_not v x y (λ j lx ly lj e. omega arith)

pub stands_holds : (v : View) (a b c : ℕ) → a < 512 → b < 512 → Stands v a b c → holds v a b ≡ true
stands_holds v a b c la lb s = holds_in v a b s.k la lb s.within s.names
