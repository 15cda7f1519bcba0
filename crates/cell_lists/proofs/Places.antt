-- Where the cells of each chain are after the top cell of one has moved to another.
use Rattle.std.proofs.Common.{◌≡◌, ℕ, zero, suc, ◌+◌, ◌-◌, ◌<◌, cond, ◌&&◌, eqb, sym, refl, ap, ◌∙◌, inl, inr, add-one, arith}
use Rattle.std.proofs.lemmas.Bool.Decides.{nat_tests}
use Rattle.std.proofs.lemmas.Bool.{cases_eq}
use Rattle.cell_lists.specs.Chains.{View, along, place, named, Ranged, Disjoint, Moved}

-- ---- along the links

pub along_shift : (next : ℕ → ℕ) (i j : ℕ) → along next i (suc j) ≡ along next (next i) j
unfolding along
along_shift next i zero = refl
along_shift next i (suc j) = ap next (along_shift next i j)

-- a walk that does not meet the cell h does not see a change at h
pub along_frame : (next next' : ℕ → ℕ) (h i j : ℕ) → ((k : ℕ) → (k ≡ h → ⊥) → next' k ≡ next k) → ((k : ℕ) → k < j → along next i k ≡ h → ⊥) → along next' i j ≡ along next i j
unfolding along
along_frame next next' h i zero e d = refl
along_frame next next' h i (suc j) e d =
    ap next' (along_frame next next' h i j e (λ k l. d k (omega arith))) ∙ e (along next i j) (d j (omega arith))

pub along_zero : (next : ℕ → ℕ) (i : ℕ) → along next i 0 ≡ i
unfolding along
along_zero next i = refl

pub along_next : (next : ℕ → ℕ) (i j : ℕ) → along next i (j + 1) ≡ next (along next i j)
unfolding along
along_next next i j = rw add-one refl

-- ---- where the cell at the place j of the chain x was before a move

abbrev pub was_chain : ℕ → ℕ → ℕ → ℕ → ℕ
was_chain f t x j = cond (eqb x t && eqb j 0) f x

abbrev pub was_at : ℕ → ℕ → ℕ → ℕ → ℕ
was_at f t x j = cond (eqb x t) (j - 1) (cond (eqb x f) (j + 1) j)

pub was_valid : (v w : View) (f t b x j : ℕ) → Moved v w f t b → (f ≡ t → ⊥) → 0 < v.count f → j < w.count x → was_at f t x j < v.count (was_chain f t x j)
was_valid v w f t b x j mv d p l =
    let e = mv.counts x in
    elim (cases_eq x t) [
      | inl xt ↦ elim (cases_eq j 0) [ inl z ↦ grind (arith, nat_tests) | inr nz ↦ grind (arith, nat_tests) ]
      | inr nt ↦ elim (cases_eq x f) [ inl xf ↦ grind (arith, nat_tests) | inr nf ↦ grind (arith, nat_tests) ]
    ]

pub count_to : (v w : View) (f t b : ℕ) → Moved v w f t b → w.count t ≡ v.count t + 1
count_to v w f t b mv = let e = mv.counts t in grind (arith, nat_tests)

pub count_from : (v w : View) (f t b : ℕ) → Moved v w f t b → (f ≡ t → ⊥) → w.count f ≡ v.count f - 1
count_from v w f t b mv d = let e = mv.counts f in grind (arith, nat_tests)

pub count_else : (v w : View) (f t b x : ℕ) → Moved v w f t b → (x ≡ t → ⊥) → (x ≡ f → ⊥) → w.count x ≡ v.count x
count_else v w f t b x mv d g = let e = mv.counts x in grind (arith, nat_tests)

head_to : (v w : View) (f t b : ℕ) → Moved v w f t b → w.head t ≡ v.head f
head_to v w f t b mv = let e = mv.heads t in grind (arith, nat_tests)

head_from : (v w : View) (f t b : ℕ) → Moved v w f t b → (f ≡ t → ⊥) → w.head f ≡ v.next (v.head f)
head_from v w f t b mv d = let e = mv.heads f in grind (arith, nat_tests)

head_else : (v w : View) (f t b x : ℕ) → Moved v w f t b → (x ≡ t → ⊥) → (x ≡ f → ⊥) → w.head x ≡ v.head x
head_else v w f t b x mv d g = let e = mv.heads x in grind (arith, nat_tests)

link_top : (v w : View) (f t b : ℕ) → Moved v w f t b → w.next (v.head f) ≡ v.head t
link_top v w f t b mv = let e = mv.links (v.head f) in grind (arith, nat_tests)

link_else : (v w : View) (f t b i : ℕ) → Moved v w f t b → (i ≡ v.head f → ⊥) → w.next i ≡ v.next i
link_else v w f t b i mv d = let e = mv.links i in grind (arith, nat_tests)

pub place_top : (v w : View) (f t b : ℕ) → Moved v w f t b → place w t 0 ≡ place v f 0
place_top v w f t b mv = along_zero w.next (w.head t) ∙ head_to v w f t b mv ∙ sym (along_zero v.next (v.head f))

pub place_under : (v w : View) (f t b k : ℕ) → Moved v w f t b → Disjoint v → (f ≡ t → ⊥) → 0 < v.count f → k < v.count t → place w t (suc k) ≡ place v t k
place_under v w f t b k mv ds d p l =
    along_shift w.next (w.head t) k
    ∙ ap (λ i. along w.next (w.next i) k) (head_to v w f t b mv)
    ∙ ap (λ i. along w.next i k) (link_top v w f t b mv)
    ∙ along_frame v.next w.next (v.head f) (v.head t) k (λ i n. link_else v w f t b i mv n)
    (λ i m e. d (sym (ds t i f 0 (omega arith) p (e ∙ sym (along_zero v.next (v.head f)))).0))

pub place_from : (v w : View) (f t b j : ℕ) → Moved v w f t b → Disjoint v → (f ≡ t → ⊥) → 0 < v.count f → suc j < v.count f → place w f j ≡ place v f (suc j)
place_from v w f t b j mv ds d p l =
    ap (λ i. along w.next i j) (head_from v w f t b mv d)
    ∙ along_frame v.next w.next (v.head f) (v.next (v.head f)) j (λ i n. link_else v w f t b i mv n)
    (λ i m e. let z : suc i ≡ 0 = (ds f (suc i) f 0 (omega arith) p (along_shift v.next (v.head f) i ∙ e ∙ sym (along_zero v.next (v.head f)))).1 in omega arith)
    ∙ sym (along_shift v.next (v.head f) j)

pub place_else : (v w : View) (f t b x j : ℕ) → Moved v w f t b → Disjoint v → (x ≡ t → ⊥) → (x ≡ f → ⊥) → 0 < v.count f → j < v.count x → place w x j ≡ place v x j
place_else v w f t b x j mv ds d g p l =
    ap (λ i. along w.next i j) (head_else v w f t b x mv d g)
    ∙ along_frame v.next w.next (v.head f) (v.head x) j (λ i n. link_else v w f t b i mv n)
    (λ i m e. g (ds x i f 0 (omega arith) p (e ∙ sym (along_zero v.next (v.head f)))).0)

pub was_place : (v w : View) (f t b x j : ℕ) → Moved v w f t b → Disjoint v → (f ≡ t → ⊥) → 0 < v.count f → j < w.count x →
    place w x j ≡ place v (was_chain f t x j) (was_at f t x j)
was_place v w f t b x j mv ds d p l =
    let e = mv.counts x in
    elim (cases_eq x t) [
      | inl xt ↦ elim (cases_eq j 0) [
        | inl z ↦
            let c : was_chain f t x j ≡ f = grind (arith, nat_tests) in
            let a : was_at f t x j ≡ 0 = grind (arith, nat_tests) in
            ap (λ n. place w n j) xt ∙ ap (λ n. place w t n) z ∙ place_top v w f t b mv ∙ ap (λ n. place v n 0) (sym c) ∙ ap (λ n. place v (was_chain f t x j) n) (sym a)
        | inr nz ↦
            let c : was_chain f t x j ≡ t = grind (arith, nat_tests) in
            let a : was_at f t x j ≡ j - 1 = grind (arith, nat_tests) in
            let s : j ≡ suc (j - 1) = omega arith in
            let k : j - 1 < v.count t = grind (arith, nat_tests) in
            ap (λ n. place w n j) xt ∙ ap (λ n. place w t n) s ∙ place_under v w f t b (j - 1) mv ds d p k ∙ ap (λ n. place v n (j - 1)) (sym c) ∙ ap (λ n. place v (was_chain f t x j) n) (sym a)
      ]
      | inr nt ↦ elim (cases_eq x f) [
        | inl xf ↦
            let c : was_chain f t x j ≡ f = grind (arith, nat_tests) in
            let a : was_at f t x j ≡ suc j = grind (arith, nat_tests) in
            let k : suc j < v.count f = grind (arith, nat_tests) in
            ap (λ n. place w n j) xf ∙ place_from v w f t b j mv ds d p k ∙ ap (λ n. place v n (suc j)) (sym c) ∙ ap (λ n. place v (was_chain f t x j) n) (sym a)
        | inr nf ↦
            let c : was_chain f t x j ≡ x = grind (arith, nat_tests) in
            let a : was_at f t x j ≡ j = grind (arith, nat_tests) in
            let k : j < v.count x = grind (arith, nat_tests) in
            place_else v w f t b x j mv ds nt nf p k ∙ ap (λ n. place v n j) (sym c) ∙ ap (λ n. place v (was_chain f t x j) n) (sym a)
      ]
    ]

was_one : (f t x j y k : ℕ) → (f ≡ t → ⊥) → was_chain f t x j ≡ was_chain f t y k → was_at f t x j ≡ was_at f t y k → (x ≡ y) × (j ≡ k)
was_one f t x j y k d c a = (grind (arith, nat_tests), grind (arith, nat_tests))

-- ---- a move keeps the chains apart

pub moved_ranged : (v w : View) (f t b m : ℕ) → Moved v w f t b → Disjoint v → Ranged v m → (f ≡ t → ⊥) → 0 < v.count f → Ranged w m
moved_ranged v w f t b m mv ds rg d p x j l =
    let e = was_place v w f t b x j mv ds d p l in
    let r = rg (was_chain f t x j) (was_at f t x j) (was_valid v w f t b x j mv d p l) in
    omega arith

pub moved_disjoint : (v w : View) (f t b : ℕ) → Moved v w f t b → Disjoint v → (f ≡ t → ⊥) → 0 < v.count f → Disjoint w
moved_disjoint v w f t b mv ds d p x j y k l m e =
    let o = ds (was_chain f t x j) (was_at f t x j) (was_chain f t y k) (was_at f t y k) (was_valid v w f t b x j mv d p l) (was_valid v w f t b y k mv d p m)
    (sym (was_place v w f t b x j mv ds d p l) ∙ e ∙ was_place v w f t b y k mv ds d p m) in
    was_one f t x j y k d o.0 o.1

-- ---- what the cells name after a move

pub named_top : (v w : View) (f t b : ℕ) → Moved v w f t b → named w t 0 ≡ b
named_top v w f t b mv =
    ap w.neighbour (place_top v w f t b mv ∙ along_zero v.next (v.head f)) ∙ (let e = mv.neighbours (v.head f) in grind (arith, nat_tests))

neighbour_else : (v w : View) (f t b i : ℕ) → Moved v w f t b → (i ≡ v.head f → ⊥) → w.neighbour i ≡ v.neighbour i
neighbour_else v w f t b i mv d = let e = mv.neighbours i in grind (arith, nat_tests)

pub named_under : (v w : View) (f t b k : ℕ) → Moved v w f t b → Disjoint v → (f ≡ t → ⊥) → 0 < v.count f → k < v.count t → named w t (suc k) ≡ named v t k
named_under v w f t b k mv ds d p l =
    ap w.neighbour (place_under v w f t b k mv ds d p l)
    ∙ neighbour_else v w f t b (place v t k) mv (λ e. d (sym (ds t k f 0 l p (e ∙ sym (along_zero v.next (v.head f)))).0))

pub named_from : (v w : View) (f t b j : ℕ) → Moved v w f t b → Disjoint v → (f ≡ t → ⊥) → 0 < v.count f → suc j < v.count f → named w f j ≡ named v f (suc j)
named_from v w f t b j mv ds d p l =
    ap w.neighbour (place_from v w f t b j mv ds d p l)
    ∙ neighbour_else v w f t b (place v f (suc j)) mv (λ e. let z : suc j ≡ 0 = (ds f (suc j) f 0 l p (e ∙ sym (along_zero v.next (v.head f)))).1 in omega arith)

pub named_else : (v w : View) (f t b x j : ℕ) → Moved v w f t b → Disjoint v → (x ≡ t → ⊥) → (x ≡ f → ⊥) → 0 < v.count f → j < v.count x → named w x j ≡ named v x j
named_else v w f t b x j mv ds d g p l =
    ap w.neighbour (place_else v w f t b x j mv ds d g p l)
    ∙ neighbour_else v w f t b (place v x j) mv (λ e. g (ds x j f 0 l p (e ∙ sym (along_zero v.next (v.head f)))).0)
