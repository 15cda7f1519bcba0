-- A cell of the chain a comes to name what the top cell names, and the top cell becomes free.
use Rattle.std.proofs.Common.{◌≡◌, ℕ, suc, ◌-◌, ◌<◌, Bool, true, false, cond, not, ◌&&◌, eqb, sym, ap, ◌∙◌, inl, inr, arith}
use Rattle.std.proofs.lemmas.Bool.Decides.{nat_tests}
use Rattle.std.proofs.lemmas.Bool.{and_from, and_parts, both_ways, cases_Bool, cases_eq, eq-eqb, ne_eqb, not_from_false, not-true}
use Rattle.cell_lists.specs.Chains.{Cut, Disjoint, Inside, Single, Stands, View, holds, named, place, renamed}
use Rattle.cell_lists.proofs.Places.{along_zero, count_else, count_from, named_else, named_from, place_else}
use Rattle.cell_lists.proofs.Standing.{agree, holds_in, holds_out}

-- the place from before that the place j now stands for
abbrev pub kept_at : ℕ → ℕ → ℕ
kept_at k j = cond (eqb (suc j) k) 0 (suc j)

renamed_at : (v : View) (a k i : ℕ) → Disjoint v → k < v.count a → i < v.count a →
    named (renamed v (place v a k) (v.neighbour (v.head a))) a i ≡ cond (eqb i k) (named v a 0) (named v a i)
renamed_at v a k i ds lk li = elim (cases_eq i k) [
  | inl e ↦
      let z : eqb i k ≡ true = eq-eqb i k e in
      let o : eqb (place v a i) (place v a k) ≡ true = eq-eqb (place v a i) (place v a k) (ap (λ n. place v a n) e) in
      ap (λ t. cond t (v.neighbour (v.head a)) (named v a i)) o ∙ ap v.neighbour (sym (along_zero v.next (v.head a))) ∙ sym (ap (λ t. cond t (named v a 0) (named v a i)) z)
  | inr d ↦
      let z : eqb i k ≡ false = ne_eqb i k d in
      let o : eqb (place v a i) (place v a k) ≡ false = ne_eqb (place v a i) (place v a k) (λ e. d (ds a i a k li lk e).1) in
      ap (λ t. cond t (v.neighbour (v.head a)) (named v a i)) o ∙ sym (ap (λ t. cond t (named v a 0) (named v a i)) z)
]

renamed_else : (v : View) (a k x i n : ℕ) → Disjoint v → k < v.count a → i < v.count x → (x ≡ a → ⊥) → named (renamed v (place v a k) n) x i ≡ named v x i
renamed_else v a k x i n ds lk li d =
    ap (λ t. cond t n (named v x i)) (ne_eqb (place v x i) (place v a k) (λ e. d (ds x i a k li lk e).0))

pub record Left (v w : View) (a k x j : ℕ) : Type 0 where
  pub mine : (x ≡ a) → (kept_at k j < v.count x) × (named w x j ≡ named v x (kept_at k j))
  pub other : (x ≡ a → ⊥) → (j < v.count x) × (named w x j ≡ named v x j)

choose : (k j : ℕ) (f : ℕ → ℕ) → cond (eqb (suc j) k) (f 0) (f (suc j)) ≡ f (kept_at k j)
choose k j f = elim (cases_Bool (eqb (suc j) k)) [
  | inl e ↦ ap (λ t. cond t (f 0) (f (suc j))) e ∙ sym (ap (λ (t : Bool). f (cond t 0 (suc j))) e)
  | inr e ↦ ap (λ t. cond t (f 0) (f (suc j))) e ∙ sym (ap (λ (t : Bool). f (cond t 0 (suc j))) e)
]

pub left : (v w : View) (a k x j : ℕ) → Cut v w a (place v a k) → Disjoint v → k < v.count a → a < 512 → x < 512 → j < w.count x → Left v w a k x j
left v w a k x j mv ds lk la lx lj =
    let u = renamed v (place v a k) (v.neighbour (v.head a)) in
    let p : 0 < v.count a = omega arith in
    record {
      mine = λ xa.
          let g = count_from u w a 512 0 mv (λ e. omega arith) in
          let h : w.count x ≡ w.count a = ap w.count xa in
          let r : v.count x ≡ v.count a = ap v.count xa in
          let l : suc j < v.count a = omega arith in
          let q : kept_at k j < v.count x = grind (arith, nat_tests) in
          (q, ap (λ n. named w n j) xa ∙ named_from u w a 512 0 j mv ds (λ e. omega arith) p l ∙ renamed_at v a k (suc j) ds lk l ∙ choose k j (λ n. named v a n) ∙ ap (λ n. named v n (kept_at k j)) (sym xa));
      other = λ na.
          let g = count_else u w a 512 0 x mv (λ e. omega arith) na in
          let l : j < v.count x = omega arith in
          (l, named_else u w a 512 0 x j mv ds (λ e. omega arith) na p l ∙ renamed_else v a k x j (v.neighbour (v.head a)) ds lk l na);
    }

kept_off : (k j : ℕ) → kept_at k j ≡ k → ⊥
kept_off k j e = grind (arith, nat_tests)

kept_one : (k i j : ℕ) → kept_at k i ≡ kept_at k j → i ≡ j
kept_one k i j e = grind (arith, nat_tests)

-- the place now of a place i from before other than k
abbrev now_at : ℕ → ℕ → ℕ
now_at k i = cond (eqb i 0) (k - 1) (i - 1)

kept_now : (k i : ℕ) → (i ≡ k → ⊥) → kept_at k (now_at k i) ≡ i
kept_now k i d = elim (cases_eq i 0) [ inl z ↦ grind (arith, nat_tests) | inr n ↦ grind (arith, nat_tests) ]

now_below : (k i n : ℕ) → (i ≡ k → ⊥) → i < n → k < n → now_at k i < n - 1
now_below k i n d l m = elim (cases_eq i 0) [ inl z ↦ grind (arith, nat_tests) | inr o ↦ grind (arith, nat_tests) ]

pub inside_cut : (v w : View) (a k : ℕ) → Cut v w a (place v a k) → Disjoint v → k < v.count a → a < 512 → Inside v → Inside w
inside_cut v w a k mv ds lk la ins x j lx lj =
    let c = left v w a k x j mv ds lk la lx lj in
    elim (cases_eq x a) [
      | inl xa ↦ let s = c.mine xa in let e = s.1 in let i = ins x (kept_at k j) lx s.0 in omega arith
      | inr na ↦ let s = c.other na in let e = s.1 in let i = ins x j lx s.0 in omega arith
    ]

pub single_cut : (v w : View) (a k : ℕ) → Cut v w a (place v a k) → Disjoint v → k < v.count a → a < 512 → Single v → Single w
single_cut v w a k mv ds lk la si x i j lx li lj e =
    let c = left v w a k x i mv ds lk la lx li in
    let d = left v w a k x j mv ds lk la lx lj in
    elim (cases_eq x a) [
      | inl xa ↦ let s = c.mine xa in let t = d.mine xa in kept_one k i j (si x (kept_at k i) (kept_at k j) lx s.0 t.0 (sym s.1 ∙ e ∙ t.1))
      | inr na ↦ let s = c.other na in let t = d.other na in si x i j lx s.0 t.0 (sym s.1 ∙ e ∙ t.1)
    ]

pub holds_cut : (v w : View) (a b k : ℕ) → Cut v w a (place v a k) → Disjoint v → k < v.count a → a < 512 → b < 512 → named v a k ≡ b → Single v → (x y : ℕ) →
    holds w x y ≡ (holds v x y && not (eqb x a && eqb y b))
holds_cut v w a b k mv ds lk la lb nk si x y =
    agree (holds w x y) (holds v x y && not (eqb x a && eqb y b))
    (λ h.
    let f = holds_out w x y h in
    let c = left v w a k x f.j mv ds lk la f.left f.within in
    elim (cases_eq x a) [
      | inl xa ↦
          let s = c.mine xa in
          let i = kept_at k f.j in
          let lk' : k < v.count x = omega (arith, ap v.count xa) in
          let ny : y ≡ b → ⊥ = λ yb. kept_off k f.j (si x i k f.left s.0 lk' (sym s.1 ∙ f.names ∙ yb ∙ sym nk ∙ ap (λ n. named v n k) (sym xa))) in
          let z : (eqb x a && eqb y b) ≡ false = grind (arith, nat_tests) in
          and_from (holds v x y) (not (eqb x a && eqb y b)) (holds_in v x y i f.left f.right s.0 (sym s.1 ∙ f.names)) (not_from_false (eqb x a && eqb y b) z)
      | inr na ↦
          let s = c.other na in
          let z : (eqb x a && eqb y b) ≡ false = grind (arith, nat_tests) in
          and_from (holds v x y) (not (eqb x a && eqb y b)) (holds_in v x y f.j f.left f.right s.0 (sym s.1 ∙ f.names)) (not_from_false (eqb x a && eqb y b) z)
    ])
    (λ h.
    let f = holds_out v x y (and_parts (holds v x y) (not (eqb x a && eqb y b)) h).0 in
    let z = not-true (eqb x a && eqb y b) (and_parts (holds v x y) (not (eqb x a && eqb y b)) h).1 in
    let u = renamed v (place v a k) (v.neighbour (v.head a)) in
    elim (cases_eq x a) [
      | inl xa ↦
          let ny : y ≡ b → ⊥ = λ yb. both_ways (eqb x a && eqb y b) z (and_from (eqb x a) (eqb y b) (eq-eqb x a xa) (eq-eqb y b yb)) in
          let d : f.j ≡ k → ⊥ = λ e. ny (sym f.names ∙ ap (λ n. named v x n) e ∙ ap (λ n. named v n k) xa ∙ nk) in
          let g : w.count x ≡ v.count a - 1 = ap w.count xa ∙ count_from u w a 512 0 mv (λ e. omega arith) in
          let r : v.count x ≡ v.count a = ap v.count xa in
          let fl = f.within in
          let b1 = now_below k f.j (v.count a) d (omega arith) lk in
          let l : now_at k f.j < w.count x = omega arith in
          let s = (left v w a k x (now_at k f.j) mv ds lk la f.left l).mine xa in
          holds_in w x y (now_at k f.j) f.left f.right l (s.1 ∙ ap (λ n. named v x n) (kept_now k f.j d) ∙ f.names)
      | inr na ↦
          let lx = f.left in
          let fl = f.within in
          let g : w.count x ≡ v.count x = count_else u w a 512 0 x mv (λ e. omega arith) na in
          let l : f.j < w.count x = omega arith in
          holds_in w x y f.j f.left f.right l (((left v w a k x f.j mv ds lk la f.left l).other na).1 ∙ f.names)
    ])

-- b's cell is where it was after a's cell is cut
pub stands_else : (v w : View) (a b k c d : ℕ) → Cut v w a (place v a k) → Disjoint v → k < v.count a → a < 512 → b < 512 → (b ≡ a → ⊥) → Stands v b c d → Stands w b c d
stands_else v w a b k c d mv ds lk la lb nb s =
    let u = renamed v (place v a k) (v.neighbour (v.head a)) in
    let g : w.count b ≡ v.count b = count_else u w a 512 0 b mv (λ e. omega arith) nb in
    let l = s.within in
    let lw : s.k < w.count b = omega arith in
    record {
      k = s.k;
      within = lw;
      here = place_else u w a 512 0 b s.k mv ds (λ e. omega arith) nb (omega arith) l ∙ s.here;
      names = ((left v w a k b s.k mv ds lk la lb lw).other nb).1 ∙ s.names;
    }

-- the cut at a cell that is known by its place
pub cut_at : (v w : View) (a b c : ℕ) → Cut v w a c → (s : Stands v a b c) → Cut v w a (place v a s.k)
cut_at v w a b c mv s = rw s.here mv
