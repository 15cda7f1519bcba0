-- The start: all cells in one free chain 0, 1, 2, .., and no pair.
use Rattle.std.proofs.Common.{◌≡◌, ℕ, zero, suc, ◌+◌, ◌<◌, ◌≤◌, false, List, ◌++◌, length, get_or, set, replicate, sym, refl, ap, ◌∙◌, inl, inr, arith, get_or-set_other, get_or-set_same}
use lib.ListN.{get_or-replicate, length-replicate}
use Rattle.std.proofs.lemmas.List.{get_or_append_left}
use Rattle.std.proofs.lemmas.Bool.{cases_eq, cases_lt}
use Rattle.conflicts.proofs.Sums.{count_none}
use Rattle.conflicts.proofs.Edges.{edges_none}
use Rattle.cell_lists.specs.declared.cell.Cell.{Cell}
use Rattle.cell_lists.specs.declared.chains.Chain.{Chain}
use Rattle.cell_lists.specs.Chains.{Unused, View, along, holds, place}
use Rattle.cell_lists.specs.Memory.{blank, no_cells, view_of}
use Rattle.cell_lists.proofs.Standing.{holds_not}
use Rattle.cell_lists.proofs.Whole.{Whole}

along_all : (next : ℕ → ℕ) (m j : ℕ) → ((i : ℕ) → i < m → next i ≡ i + 1) → j ≤ m → along next 0 j ≡ j
unfolding along
along_all next m zero h l = refl
along_all next m (suc j) h l = ap next (along_all next m j h (omega arith)) ∙ (let e = h j (omega arith) in omega arith)

-- a place is one of the free chain, with the cell of its own number
record Lies (v : View) (m x j : ℕ) : Type 0 where
  chain : x ≡ 512
  cell : place v x j ≡ j
  below : j < m

lies : (v : View) (m x j : ℕ) → Unused v m → j < v.count x → Lies v m x j
lies v m x j b l = elim (cases_eq x 512) [
  | inl e ↦
      let d : v.count x ≡ m = ap v.count e ∙ b.free in
      let k : j < m = omega arith in
      record {
        chain = e;
        cell = ap (λ n. along v.next (v.head n) j) e ∙ ap (λ n. along v.next n j) b.top ∙ along_all v.next m j b.links (omega arith);
        below = k;
      }
  | inr n ↦ let z = b.rest x n in absurd (omega arith)
]

pub unused_empty : (v : View) (m : ℕ) → Unused v m → (x y : ℕ) → holds v x y ≡ false
unused_empty v m b x y = holds_not v x y (λ j lx ly lj e. let p = (lies v m x j b lj).chain in omega arith)

pub unused_whole : (v : View) (m : ℕ) → Unused v m → Whole v m 0
unused_whole v m b =
    let none = unused_empty v m b in
    let fr = b.free in
    record {
      ranged = λ x j l. let p = lies v m x j b l in let q = p.cell in let r = p.below in omega arith;
      disjoint = λ x j y k l r e. let p = lies v m x j b l in let q = lies v m y k b r in (p.chain ∙ sym q.chain, sym p.cell ∙ e ∙ q.cell);
      inside = λ x j lx lj. let p = (lies v m x j b lj).chain in absurd (omega arith);
      single = λ x j k lx lj lk e. let p = (lies v m x j b lj).chain in absurd (omega arith);
      symmetric = λ x y. none x y ∙ sym (none y x);
      loopless = λ x. none x x;
      degrees = λ x lx. b.rest x (λ e. omega arith) ∙ sym (count_none (holds v x) 512 (λ y _. none x y));
      free = omega arith;
      counted = sym (edges_none (holds v) 512 none);
    }

-- ---- the chains at the start

none_past : (n x : ℕ) → n ≤ x → get_or (replicate n no_cells) x no_cells ≡ no_cells
none_past zero x h = refl
none_past (suc n) zero h = absurd (omega arith)
none_past (suc n) (suc x) h = none_past n x (omega arith)

none : (n x : ℕ) → get_or (replicate n no_cells) x no_cells ≡ no_cells
none n x = elim (cases_lt x n) [ inl l ↦ get_or-replicate n x no_cells no_cells l | inr g ↦ none_past n x g ]

pub unused : (cs ds : List Cell) (m : ℕ) → length cs ≡ m → ((i : ℕ) → i < length cs → (get_or cs i blank).next ≡ i + 1)
    → Unused (view_of (cs ++ ds) (set (replicate 513 no_cells) 512 (record { head = 0; len = m }))) m
unused cs ds m e h =
    let all : Chain = record { head = 0; len = m } in
    let top = get_or-set_same (replicate 513 no_cells) 512 all no_cells (let l = length-replicate {A = Chain} 513 no_cells in omega arith) in
    record {
      links = λ i l. ap (λ (c : Cell). c.next) (get_or_append_left cs ds blank i (omega arith)) ∙ h i (omega arith);
      top = ap (λ (c : Chain). c.head) top;
      free = ap (λ (c : Chain). c.len) top;
      rest = λ x n. ap (λ (c : Chain). c.len) (get_or-set_other (replicate 513 no_cells) 512 x all no_cells n ∙ none 513 x);
    }
