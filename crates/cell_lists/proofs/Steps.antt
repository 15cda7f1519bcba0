-- What each of two moves or cuts in a row wants: cells within the first m, and counts that stay small.
use Rattle.std.proofs.Common.{◌≡◌, ℕ, ◌+◌, ◌<◌, ◌≤◌, sym, arith}
use Rattle.conflicts.proofs.Sums.{count_le}
use Rattle.cell_lists.specs.Chains.{Cut, Degrees, Moved, Ranged, Stands, View, holds, place, renamed}
use Rattle.cell_lists.proofs.Places.{along_zero, count_else, count_from, count_to, moved_ranged}
use Rattle.cell_lists.proofs.Cutting.{cut_at, stands_else}
use Rattle.cell_lists.proofs.Whole.{Whole}

pub top_within : (v : View) (m x : ℕ) → Ranged v m → 0 < v.count x → v.head x < m
top_within v m x rg p = let r = rg x 0 p in let z = along_zero v.next (v.head x) in omega arith

pub stands_within : (v : View) (m a b c : ℕ) → Ranged v m → Stands v a b c → c < m
stands_within v m a b c rg s = let r = rg a s.k s.within in let z = s.here in omega arith

pub count_small : (v : View) (x : ℕ) → Degrees v → x < 512 → v.count x ≤ 512
count_small v x d l = let e = d x l in let t = count_le (holds v x) 512 in omega arith

-- after the first of two moves of a free cell
pub record SecondMove (u : View) (b m : ℕ) : Type 0 where
  pub some : 0 < u.count 512
  pub top : u.head 512 < m
  pub small : u.count b ≤ 512

pub second_move : (v u : View) (a b m n : ℕ) → Whole v m n → a < 512 → b < 512 → (a ≡ b → ⊥) → 1 < v.count 512 → Moved v u 512 a b → SecondMove u b m
second_move v u a b m n wh la lb d p mv =
    let da : 512 ≡ a → ⊥ = λ e. omega arith in
    let g = count_from v u 512 a b mv da in
    let rg = moved_ranged v u 512 a b m mv wh.disjoint wh.ranged da (omega arith) in
    let q : 0 < u.count 512 = omega arith in
    let h = count_else v u 512 a b b mv (λ e. d (sym e)) (λ e. omega arith) in
    let s = count_small v b wh.degrees lb in
    record { some = q; top = top_within u m 512 rg q; small = omega arith }

-- after the first of two cuts
pub record SecondCut (v u : View) (b d m : ℕ) : Type 0 where
  pub some : 0 < u.count b
  pub top : u.head b < m
  pub cell : d < m
  pub free : u.count 512 ≡ v.count 512 + 1

pub second_cut : (v u : View) (a b c d m n : ℕ) → Whole v m n → a < 512 → b < 512 → (a ≡ b → ⊥) → Stands v a b c → Stands v b a d → Cut v u a c → SecondCut v u b d m
second_cut v u a b c d m n wh la lb ne sa sb cv =
    let mv = cut_at v u a b c cv sa in
    let v1 = renamed v (place v a sa.k) (v.neighbour (v.head a)) in
    let wa = sa.within in
    let da : a ≡ 512 → ⊥ = λ e. omega arith in
    let tb = stands_else v u a b sa.k a d mv wh.disjoint wa la lb (λ e. ne (sym e)) sb in
    let rg = moved_ranged v1 u a 512 0 m mv wh.disjoint wh.ranged da (omega arith) in
    let wt = tb.within in
    let q : 0 < u.count b = omega arith in
    record { some = q; top = top_within u m b rg q; cell = stands_within u m b a d rg tb; free = count_to v1 u a 512 0 mv }
