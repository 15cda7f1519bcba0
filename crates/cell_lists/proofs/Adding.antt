-- A free cell becomes the top cell of the chain a and names b.
use Rattle.std.proofs.Common.{◌≡◌, ℕ, suc, ◌+◌, ◌-◌, ◌<◌, false, ◌&&◌, ◌||◌, eqb, sym, refl, ap, ◌∙◌, inl, inr, arith}
use Rattle.std.proofs.lemmas.Bool.{and_from, and_parts, both_ways, cases_eq, eq-eqb, eqb-true, or_cases, or_left, or_right}
use Rattle.cell_lists.specs.Chains.{Disjoint, Inside, Moved, Single, View, holds, named}
use Rattle.cell_lists.proofs.Places.{count_else, count_to, named_else, named_top, named_under}
use Rattle.cell_lists.proofs.Standing.{agree, holds_in, holds_out}

-- the place j of the chain x is the new one, or one from before
pub record Came (v w : View) (a b x j : ℕ) : Type 0 where
  pub same_chain : (x ≡ a) → 0 < j → (j - 1 < v.count x) × (named w x j ≡ named v x (j - 1))
  pub new : (x ≡ a) → j ≡ 0 → named w x j ≡ b
  pub other : (x ≡ a → ⊥) → (j < v.count x) × (named w x j ≡ named v x j)

pub came : (v w : View) (a b x j : ℕ) → Moved v w 512 a b → Disjoint v → 0 < v.count 512 → a < 512 → x < 512 → j < w.count x → Came v w a b x j
came v w a b x j mv ds p la lx lj =
    record {
      same_chain = λ xa pos.
          let g = count_to v w 512 a b mv in
          let u : w.count x ≡ w.count a = ap w.count xa in
          let r : v.count x ≡ v.count a = ap v.count xa in
          let s : j ≡ suc (j - 1) = omega arith in
          let k : j - 1 < v.count a = omega arith in
          (omega arith, ap (λ n. named w n j) xa ∙ ap (λ n. named w a n) s ∙ named_under v w 512 a b (j - 1) mv ds (λ e. omega arith) p k ∙ ap (λ n. named v n (j - 1)) (sym xa));
      new = λ xa z. ap (λ n. named w n j) xa ∙ ap (λ n. named w a n) z ∙ named_top v w 512 a b mv;
      other = λ na.
          let g = count_else v w 512 a b x mv na (λ e. omega arith) in
          let k : j < v.count x = omega arith in
          (k, named_else v w 512 a b x j mv ds na (λ e. omega arith) p k);
    }

pub holds_add : (v w : View) (a b : ℕ) → Moved v w 512 a b → Disjoint v → 0 < v.count 512 → a < 512 → b < 512 → (x y : ℕ) →
    holds w x y ≡ (holds v x y || (eqb x a && eqb y b))
holds_add v w a b mv ds p la lb x y =
    agree (holds w x y) (holds v x y || (eqb x a && eqb y b))
    (λ h.
    let f = holds_out w x y h in
    let c = came v w a b x f.j mv ds p la f.left f.within in
    elim (cases_eq x a) [
      | inl xa ↦ elim (cases_eq f.j 0) [
        | inl z ↦ or_right (holds v x y) (eqb x a && eqb y b) (and_from (eqb x a) (eqb y b) (eq-eqb x a xa) (eq-eqb y b (sym f.names ∙ c.new xa z)))
        | inr nz ↦ let s = c.same_chain xa (omega arith) in or_left (holds v x y) (eqb x a && eqb y b) (holds_in v x y (f.j - 1) f.left f.right s.0 (sym s.1 ∙ f.names))
      ]
      | inr na ↦ let s = c.other na in or_left (holds v x y) (eqb x a && eqb y b) (holds_in v x y f.j f.left f.right s.0 (sym s.1 ∙ f.names))
    ])
    (λ h. elim (or_cases (holds v x y) (eqb x a && eqb y b) h) [
      | inl l ↦
          let f = holds_out v x y l in
          elim (cases_eq x a) [
            | inl xa ↦
                let g : w.count x ≡ v.count x + 1 = ap w.count xa ∙ count_to v w 512 a b mv ∙ ap (λ n. v.count n + 1) (sym xa) in
                let k : suc f.j < w.count x = omega arith in
                let c = (came v w a b x (suc f.j) mv ds p la f.left k).same_chain xa (omega arith) in
                let e : suc f.j - 1 ≡ f.j = omega arith in
                holds_in w x y (suc f.j) f.left f.right k (c.1 ∙ ap (λ n. named v x n) e ∙ f.names)
            | inr na ↦
                let lx = f.left in
                let g : w.count x ≡ v.count x = count_else v w 512 a b x mv na (λ e. omega arith) in
                let k : f.j < w.count x = omega arith in
                holds_in w x y f.j f.left f.right k (((came v w a b x f.j mv ds p la f.left k).other na).1 ∙ f.names)
          ]
      | inr r ↦
          let q = and_parts (eqb x a) (eqb y b) r in
          let xa = eqb-true x a q.0 in
          let yb = eqb-true y b q.1 in
          let g : w.count x ≡ v.count a + 1 = ap w.count xa ∙ count_to v w 512 a b mv in
          let k : 0 < w.count x = omega arith in
          holds_in w x y 0 (omega arith) (omega arith) k ((came v w a b x 0 mv ds p la (omega arith) k).new xa refl ∙ sym yb)
    ])

pub inside_add : (v w : View) (a b : ℕ) → Moved v w 512 a b → Disjoint v → 0 < v.count 512 → a < 512 → b < 512 → Inside v → Inside w
inside_add v w a b mv ds p la lb ins x j lx lj =
    let c = came v w a b x j mv ds p la lx lj in
    elim (cases_eq x a) [
      | inl xa ↦ elim (cases_eq j 0) [
        | inl z ↦ let e = c.new xa z in omega arith
        | inr nz ↦ let s = c.same_chain xa (omega arith) in let e = s.1 in let i = ins x (j - 1) lx s.0 in omega arith
      ]
      | inr na ↦ let s = c.other na in let e = s.1 in let i = ins x j lx s.0 in omega arith
    ]

pub single_add : (v w : View) (a b : ℕ) → Moved v w 512 a b → Disjoint v → 0 < v.count 512 → a < 512 → b < 512 → holds v a b ≡ false → Single v → Single w
single_add v w a b mv ds p la lb no-pair si x j k lx lj lk e =
    let c = came v w a b x j mv ds p la lx lj in
    let d = came v w a b x k mv ds p la lx lk in
    elim (cases_eq x a) [
      | inl xa ↦
          let never : (i : ℕ) → i < v.count x → named v x i ≡ b → ⊥ = λ i l n. both_ways (holds v a b) no-pair (ap (λ z. holds v z b) (sym xa) ∙ holds_in v x b i lx lb l n) in
          elim (cases_eq j 0) [
            | inl z ↦ elim (cases_eq k 0) [
              | inl z' ↦ omega arith
              | inr nz' ↦ let t = d.same_chain xa (omega arith) in absurd (never (k - 1) t.0 (sym t.1 ∙ sym e ∙ c.new xa z))
            ]
            | inr nz ↦ elim (cases_eq k 0) [
              | inl z' ↦ let s = c.same_chain xa (omega arith) in absurd (never (j - 1) s.0 (sym s.1 ∙ e ∙ d.new xa z'))
              | inr nz' ↦
                  let s = c.same_chain xa (omega arith) in
                  let t = d.same_chain xa (omega arith) in
                  let q : j - 1 ≡ k - 1 = si x (j - 1) (k - 1) lx s.0 t.0 (sym s.1 ∙ e ∙ t.1) in
                  omega arith
            ]
          ]
      | inr na ↦
          let s = c.other na in
          let t = d.other na in
          si x j k lx s.0 t.0 (sym s.1 ∙ e ∙ t.1)
    ]
