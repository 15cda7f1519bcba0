-- One pair more or fewer: how the degrees go with the lengths of the chains.
use Rattle.std.proofs.Common.{◌≡◌, ℕ, suc, ◌+◌, ◌<◌, true, false, sym, ap, ◌∙◌, inl, inr, arith}
use Rattle.std.proofs.lemmas.Bool.Decides.{nat_tests}
use Rattle.std.proofs.lemmas.Bool.{cases_eq}
use Rattle.conflicts.specs.Graphs.{Graph, degree, joins}
use Rattle.conflicts.proofs.Sums.{count_more, count_same}
use Rattle.cell_lists.specs.Chains.{Degrees, View, holds}

-- w has one pair more than v, that of a and b, and the chains of these two are longer by a cell.
pub record More (v w : View) (a b : ℕ) : Type 0 where
  pub first : a < 512
  pub second : b < 512
  pub other : a ≡ b → ⊥
  pub off : holds v a b ≡ false
  pub off_back : holds v b a ≡ false
  pub on : holds w a b ≡ true
  pub on_back : holds w b a ≡ true
  pub rest : (x y : ℕ) → joins a b x y ≡ false → holds v x y ≡ holds w x y
  pub longer : w.count a ≡ v.count a + 1
  pub longer_back : w.count b ≡ v.count b + 1
  pub others : (x : ℕ) → x < 512 → (x ≡ a → ⊥) → (x ≡ b → ⊥) → w.count x ≡ v.count x

degree_else : (f g : Graph) (a b x : ℕ) → (x ≡ a → ⊥) → (x ≡ b → ⊥) → ((x y : ℕ) → joins a b x y ≡ false → f x y ≡ g x y) → degree f x ≡ degree g x
degree_else f g a b x na nb same = count_same (f x) (g x) 512 (λ y _. same x y (grind (arith, nat_tests)))

degree_first : (v w : View) (a b : ℕ) → More v w a b → degree (holds w) a ≡ suc (degree (holds v) a)
degree_first v w a b m =
    let d = m.other in
    count_more (holds v a) (holds w a) b 512 m.second m.off m.on (λ y _ n. m.rest a y (grind (arith, nat_tests)))

degree_second : (v w : View) (a b : ℕ) → More v w a b → degree (holds w) b ≡ suc (degree (holds v) b)
degree_second v w a b m =
    let d = m.other in
    count_more (holds v b) (holds w b) a 512 m.first m.off_back m.on_back (λ y _ n. m.rest b y (grind (arith, nat_tests)))

-- at a number other than these two nothing changes
record Unchanged (v w : View) (x : ℕ) : Type 0 where
  length : w.count x ≡ v.count x
  number : degree (holds v) x ≡ degree (holds w) x

unchanged : (v w : View) (a b x : ℕ) → More v w a b → x < 512 → (x ≡ a → ⊥) → (x ≡ b → ⊥) → Unchanged v w x
unchanged v w a b x m l na nb = record { length = m.others x l na nb; number = degree_else (holds v) (holds w) a b x na nb m.rest }

pub degrees_more : (v w : View) (a b : ℕ) → More v w a b → Degrees v → Degrees w
degrees_more v w a b m d x l = elim (cases_eq x a) [
  | inl xa ↦
      let at_a : w.count a ≡ degree (holds w) a = omega (arith, m.longer, degree_first v w a b m, d a m.first) in
      ap w.count xa ∙ at_a ∙ ap (degree (holds w)) (sym xa)
  | inr na ↦ elim (cases_eq x b) [
    | inl xb ↦
        let at_b : w.count b ≡ degree (holds w) b = omega (arith, m.longer_back, degree_second v w a b m, d b m.second) in
        ap w.count xb ∙ at_b ∙ ap (degree (holds w)) (sym xb)
    | inr nb ↦ let u = unchanged v w a b x m l na nb in u.length ∙ d x l ∙ u.number
  ]
]

pub degrees_fewer : (v w : View) (a b : ℕ) → More v w a b → Degrees w → Degrees v
degrees_fewer v w a b m d x l = elim (cases_eq x a) [
  | inl xa ↦
      let at_a : v.count a ≡ degree (holds v) a = omega (arith, m.longer, degree_first v w a b m, d a m.first) in
      ap v.count xa ∙ at_a ∙ ap (degree (holds v)) (sym xa)
  | inr na ↦ elim (cases_eq x b) [
    | inl xb ↦
        let at_b : v.count b ≡ degree (holds v) b = omega (arith, m.longer_back, degree_second v w a b m, d b m.second) in
        ap v.count xb ∙ at_b ∙ ap (degree (holds v)) (sym xb)
    | inr nb ↦ let u = unchanged v w a b x m l na nb in sym u.length ∙ d x l ∙ sym u.number
  ]
]
