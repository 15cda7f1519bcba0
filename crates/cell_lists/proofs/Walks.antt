-- A chain as the list of its cells, each with the number that it names.
use Rattle.std.proofs.Common.{◌≡◌, ℕ, zero, suc, ◌-◌, ◌<◌, true, false, List, [], ◌∷◌, map, length, get_or, Some, None, Option, MatchOption, Ok, Err, Result, sym, refl, ap, ◌∙◌, arith}
use Rattle.std.specs.List.{AllWithin, HoldsAt}
use Rattle.std.specs.Option.{option_map}
use Rattle.std.specs.Result.{MatchResult, result_ok}
use Rattle.std.proofs.lemmas.Bool.Decides.{nat_tests}
use Rattle.std.proofs.lemmas.List.{get_or-map, length-map}
use Rattle.lifts.specs.Faults.{number_refusal}
use Rattle.lifts.specs.declared.fault.Fault.{Fault}
use Rattle.lifts.specs.declared.fault.Layer.TheVariants.{Book}
use Rattle.lifts.specs.declared.lift.LiftNumber.{LiftNumber}
use Rattle.conflicts.specs.Graphs.{Below, SmallestFrom}
use Rattle.cell_lists.specs.declared.cell.Cell.{Cell}
use Rattle.cell_lists.specs.declared.chains.Memory.{Memory}
use Rattle.cell_lists.specs.Chains.{Inside, Located, along, holds, named, place}
use Rattle.cell_lists.specs.Memory.{blank, chain, stops, view}
use Rattle.cell_lists.proofs.Places.{along_shift}
use Rattle.cell_lists.proofs.Smallest.{Smallest}
use Rattle.cell_lists.proofs.Standing.{holds_in, holds_not}

pub stops_none : (cs : List Cell) (i n : ℕ) → n ≡ 0 → stops cs i n ≡ []
unfolding stops
stops_none cs i zero e = refl
stops_none cs i (suc n) e = absurd (omega arith)

pub stops_some : (cs : List Cell) (i n : ℕ) → 0 < n
    → stops cs i n ≡ (i, (get_or cs i blank).neighbour) ∷ stops cs (get_or cs i blank).next (n - 1)
unfolding stops
stops_some cs i zero p = absurd (omega arith)
stops_some cs i (suc n) p = let e : suc n - 1 ≡ n = omega arith in rw e

pub length-stops : (cs : List Cell) (i n : ℕ) → length (stops cs i n) ≡ n
unfolding stops
length-stops cs i zero = refl
length-stops cs i (suc n) = ap suc (length-stops cs (get_or cs i blank).next n)

pub get_or-stops : (cs : List Cell) (i n j : ℕ) (d : ℕ × ℕ) → j < n
    → let k = along (λ t. (get_or cs t blank).next) i j in get_or (stops cs i n) j d ≡ (k, (get_or cs k blank).neighbour)
unfolding stops along
get_or-stops cs i zero j d l = absurd (omega arith)
get_or-stops cs i (suc n) zero d l = refl
get_or-stops cs i (suc n) (suc j) d l =
    get_or-stops cs (get_or cs i blank).next n j d (omega arith)
    ∙ ap (λ t. (t, (get_or cs t blank).neighbour)) (sym (along_shift (λ t. (get_or cs t blank).next) i j))

-- ---- the cells of the chain x

pub length-chain : (k : Memory) (x : ℕ) → length (chain k x) ≡ (view k).count x
length-chain k x = length-stops k.cells.now ((view k).head x) ((view k).count x)

pub get_or-chain : (k : Memory) (x j : ℕ) (d : ℕ × ℕ) → j < (view k).count x → get_or (chain k x) j d ≡ (place (view k) x j, named (view k) x j)
get_or-chain k x j d l = get_or-stops k.cells.now ((view k).head x) ((view k).count x) j d l

-- what a search for b in the chain of a finds
abbrev pub Searched : Memory → ℕ → ℕ → Option (ℕ × ℕ) → Type 0
Searched k a b r =
    MatchOption r (AllWithin (λ p. p.1 ≡ b → ⊥) (chain k a) 0 (length (chain k a)))
    (λ x. (x.1 ≡ b) × (i : ℕ) × (i < length (chain k a)) × HoldsAt (λ y. y ≡ x) (chain k a) i × AllWithin (λ p. p.1 ≡ b → ⊥) (chain k a) 0 i)

pub located : (k : Memory) (a b : ℕ) (r : Option (ℕ × ℕ)) → a < 512 → b < 512 → Searched k a b r → Located (view k) a b (option_map (λ p. p.0) r)
located k a b None la lb h =
    holds_not (view k) a b (λ j lx ly lj e. h j (0, 0) (omega arith) (omega (arith, length-chain k a)) (ap (λ p. p.1) (get_or-chain k a j (0, 0) lj) ∙ e))
located k a b (Some x) la lb h =
    let l : h.1 < (view k).count a = omega (arith, h.2, length-chain k a) in
    let e = sym (get_or-chain k a h.1 x l) ∙ h.3 x in
    let named_b : named (view k) a h.1 ≡ b = ap (λ p. p.1) e ∙ h.0 in (
      holds_in (view k) a b h.1 la lb l named_b,
      record { k = h.1; within = l; here = ap (λ p. p.0) e; names = named_b },
    )

-- ---- the top cell of the chain x

pub none_stand : (k : Memory) (x : ℕ) → chain k x ≡ [] → (y : ℕ) → holds (view k) x y ≡ false
none_stand k x e y = holds_not (view k) x y (λ j lx ly lj h. omega (arith, ap length e, length-chain k x))

-- the number n that the top cell names is taken for a lift's number, and so the pair stands
pub top_stands : (k : Memory) (x c n : ℕ) (rest : List (ℕ × ℕ)) (r : Result LiftNumber Fault) → x < 512 → Inside (view k) → chain k x ≡ (c, n) ∷ rest
    → MatchResult r (λ m. (number_refusal Book n ≡ None) × (m.value ≡ n)) (λ fault. number_refusal Book n ≡ Some fault)
    → (m : LiftNumber) × (result_ok r ≡ Some m) × (holds (view k) x m.value ≡ true)
top_stands k x c n rest (Ok m) lx ins e h =
    let some : 0 < (view k).count x = omega (arith, ap length e, length-chain k x) in
    let here : named (view k) x 0 ≡ n = ap (λ p. p.1) (sym (get_or-chain k x 0 (0, 0) some) ∙ ap (λ ps. get_or ps 0 (0, 0)) e) in
    let below : m.value < 512 = omega (arith, m.in_range) in
    (m, refl, holds_in (view k) x m.value 0 lx below some (here ∙ sym h.1))
top_stands k x c n rest (Err f) lx ins e h =
    let some : 0 < (view k).count x = omega (arith, ap length e, length-chain k x) in
    let here : named (view k) x 0 ≡ n = ap (λ p. p.1) (sym (get_or-chain k x 0 (0, 0) some) ∙ ap (λ ps. get_or ps 0 (0, 0)) e) in
    let below : n < 512 = omega (arith, ins x 0 lx some) in
    absurd (grind (arith, nat_tests))

-- ---- the smallest number that the chain x names

abbrev pub names : Memory → ℕ → List ℕ
names k x = map (λ p. p.1) (chain k x)

length-names : (k : Memory) (x : ℕ) → length (names k x) ≡ (view k).count x
length-names k x = length-map (chain k x) (λ p. p.1) ∙ length-chain k x

get_or-names : (k : Memory) (x j d : ℕ) → j < (view k).count x → get_or (names k x) j d ≡ named (view k) x j
get_or-names k x j d l = get_or-map (λ p. p.1) (chain k x) j (0, 0) d (omega (arith, length-chain k x)) ∙ ap (λ p. p.1) (get_or-chain k x j (0, 0) l)

pub next_in : (k : Memory) (a from : ℕ) (r : Option ℕ) → a < 512 → Inside (view k) → Smallest from (names k a) r → SmallestFrom (holds (view k) a) from r × Below 512 r
next_in k a from None la ins s = (
  λ q h. holds_not (view k) a q (λ j lx ly lj e. let z = s j 0 (omega (arith, length-names k a)) in let n = get_or-names k a j 0 lj in omega arith),
  tt,
)
next_in k a from (Some q) la ins s =
    let l : s.1.0 < (view k).count a = omega (arith, s.1.1, length-names k a) in
    let here : named (view k) a s.1.0 ≡ q = sym (get_or-names k a s.1.0 q l) ∙ s.1.2 in
    let below : q < 512 = omega (arith, ins a s.1.0 la l) in (
      (
        s.0,
        holds_in (view k) a q s.1.0 la below l here,
        λ t h m. holds_not (view k) a t (λ j lx ly lj e. let n = get_or-names k a j 0 lj in let z = s.2 j 0 (omega (arith, length-names k a)) (omega arith) in omega arith),
      ),
      below,
    )
