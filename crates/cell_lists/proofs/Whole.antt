-- All that the lists keep, and that one pair more or fewer leaves it so.
use Rattle.std.proofs.Common.{◌≡◌, ℕ, ◌+◌, ◌-◌, ◌*◌, ◌<◌, true, false, not, ◌&&◌, ◌||◌, eqb, sym, ap, ◌∙◌, arith}
use Rattle.std.proofs.lemmas.Bool.Decides.{nat_tests}
use Rattle.std.proofs.lemmas.Bool.{both_ways, ne_eqb}
use Rattle.conflicts.specs.Graphs.{Loopless, Symmetric, edge_count, joins}
use Rattle.conflicts.proofs.Edges.{both_halves, edges_fewer, edges_more, joined_loopless, joined_symmetric, neither_half, parted_loopless, parted_symmetric}
use Rattle.cell_lists.specs.Chains.{Cut, Degrees, Disjoint, Inside, Moved, Ranged, Single, Stands, View, holds, place, renamed}
use Rattle.cell_lists.proofs.Places.{count_else, count_from, count_to, moved_disjoint, moved_ranged}
use Rattle.cell_lists.proofs.Standing.{stands_holds}
use Rattle.cell_lists.proofs.Adding.{holds_add, inside_add, single_add}
use Rattle.cell_lists.proofs.Cutting.{cut_at, holds_cut, inside_cut, single_cut, stands_else}
use Rattle.cell_lists.proofs.Degrees.{More, degrees_fewer, degrees_more}

-- chains over m cells that hold n pairs
pub record Whole (v : View) (m n : ℕ) : Type 0 where
  pub ranged : Ranged v m
  pub disjoint : Disjoint v
  pub inside : Inside v
  pub single : Single v
  pub symmetric : Symmetric (holds v)
  pub loopless : Loopless (holds v)
  pub degrees : Degrees v
  pub free : v.count 512 + 2 * n ≡ m
  pub counted : n ≡ edge_count (holds v)

-- ---- one pair more

pub record Joined (v w : View) (a b m n : ℕ) : Type 0 where
  pub after : (x y : ℕ) → holds w x y ≡ (holds v x y || joins a b x y)
  pub whole : Whole w m (n + 1)

pub joined : (v u w : View) (a b m n : ℕ) → Whole v m n → Moved v u 512 a b → Moved u w 512 b a → 1 < v.count 512
    → a < 512 → b < 512 → (a ≡ b → ⊥) → holds v a b ≡ false → Joined v w a b m n
joined v u w a b m n wh mv mu p la lb d h =
    let ds = wh.disjoint in
    let sy = wh.symmetric in
    let p0 : 0 < v.count 512 = omega arith in
    let da : 512 ≡ a → ⊥ = λ e. omega arith in
    let db : 512 ≡ b → ⊥ = λ e. omega arith in
    let fu = count_from v u 512 a b mv da in
    let fw = count_from u w 512 b a mu db in
    let p1 : 0 < u.count 512 = omega arith in
    let du = moved_disjoint v u 512 a b mv ds da p0 in
    let half : (x y : ℕ) → holds u x y ≡ (holds v x y || (eqb x a && eqb y b)) = holds_add v u a b mv ds p0 la lb in
    let after : (x y : ℕ) → holds w x y ≡ (holds v x y || joins a b x y) = λ x y.
    holds_add u w b a mu du p1 lb la x y
    ∙ ap (λ t. t || (eqb x b && eqb y a)) (half x y)
    ∙ both_halves (holds v x y) (eqb x a && eqb y b) (eqb x b && eqb y a) in
    let hb : holds v b a ≡ false = sy b a ∙ h in
    let hu : holds u b a ≡ false = half b a ∙ ap (λ t. t || (eqb b a && eqb a b)) hb ∙ ap (λ t. t && eqb a b) (ne_eqb b a (λ e. d (sym e))) in
    let more : More v w a b = record {
      first = la;
      second = lb;
      other = d;
      off = h;
      off_back = hb;
      on = let e = after a b in grind (arith, nat_tests);
      on_back = let e = after b a in grind (arith, nat_tests);
      rest = λ x y z. let e = after x y in grind (arith, nat_tests);
      longer = let s = count_to v u 512 a b mv in let t = count_else u w 512 b a a mu d (λ e. omega arith) in omega arith;
      longer_back = let s = count_to u w 512 b a mu in let t = count_else v u 512 a b b mv (λ e. d (sym e)) (λ e. omega arith) in omega arith;
      others = λ x l na nb. count_else u w 512 b a x mu nb (λ e. omega arith) ∙ count_else v u 512 a b x mv na (λ e. omega arith);
    } in
    let ec = edges_more (holds v) (holds w) a b 512 la lb d sy h after in
    let fr = wh.free in
    let co = wh.counted in
    record {
      after = after;
      whole = record {
        ranged = moved_ranged u w 512 b a m mu du (moved_ranged v u 512 a b m mv ds wh.ranged da p0) db p1;
        disjoint = moved_disjoint u w 512 b a mu du db p1;
        inside = inside_add u w b a mu du p1 lb la (inside_add v u a b mv ds p0 la lb wh.inside);
        single = single_add u w b a mu du p1 lb la hu (single_add v u a b mv ds p0 la lb h wh.single);
        symmetric = joined_symmetric (holds v) (holds w) a b sy after;
        loopless = joined_loopless (holds v) (holds w) a b wh.loopless d after;
        degrees = degrees_more v w a b more wh.degrees;
        free = omega arith;
        counted = omega arith;
      };
    }

-- ---- one pair fewer

pub record Parted (v w : View) (a b m n : ℕ) : Type 0 where
  pub some_pair : 0 < n
  pub after : (x y : ℕ) → holds w x y ≡ (holds v x y && not (joins a b x y))
  pub whole : Whole w m (n - 1)

pub parted : (v u w : View) (a b c d m n : ℕ) → Whole v m n → a < 512 → b < 512 → Stands v a b c → Stands v b a d
    → Cut v u a c → Cut u w b d → Parted v w a b m n
parted v u w a b c d m n wh la lb sa sb cv cu =
    let ds = wh.disjoint in
    let lo = wh.loopless in
    let sy = wh.symmetric in
    let wa = sa.within in
    let h : holds v a b ≡ true = stands_holds v a b c la lb sa in
    let ne : a ≡ b → ⊥ = λ e. both_ways (holds v a b) (ap (λ t. holds v t b) e ∙ lo b) h in
    let nf : b ≡ a → ⊥ = λ e. ne (sym e) in
    let mv = cut_at v u a b c cv sa in
    let v1 = renamed v (place v a sa.k) (v.neighbour (v.head a)) in
    let p0 : 0 < v.count a = omega arith in
    let da : a ≡ 512 → ⊥ = λ e. omega arith in
    let db : b ≡ 512 → ⊥ = λ e. omega arith in
    let du = moved_disjoint v1 u a 512 0 mv ds da p0 in
    let su = single_cut v u a sa.k mv ds wa la wh.single in
    let tb = stands_else v u a b sa.k a d mv ds wa la lb nf sb in
    let wt = tb.within in
    let mu = cut_at u w b a d cu tb in
    let u1 = renamed u (place u b tb.k) (u.neighbour (u.head b)) in
    let p1 : 0 < u.count b = omega arith in
    let after : (x y : ℕ) → holds w x y ≡ (holds v x y && not (joins a b x y)) = λ x y.
    holds_cut u w b a tb.k mu du wt lb la tb.names su x y
    ∙ ap (λ t. t && not (eqb x b && eqb y a)) (holds_cut v u a b sa.k mv ds wa la lb sa.names wh.single x y)
    ∙ neither_half (holds v x y) (eqb x a && eqb y b) (eqb x b && eqb y a) in
    let more : More w v a b = record {
      first = la;
      second = lb;
      other = ne;
      off = let e = after a b in grind (arith, nat_tests);
      off_back = let e = after b a in grind (arith, nat_tests);
      on = h;
      on_back = sy b a ∙ h;
      rest = λ x y z. let e = after x y in grind (arith, nat_tests);
      longer = let s = count_from v1 u a 512 0 mv da in let t = count_else u1 w b 512 0 a mu da ne in omega arith;
      longer_back = let s = count_from u1 w b 512 0 mu db in let t = count_else v1 u a 512 0 b mv db nf in omega arith;
      others = λ x l na nb. sym (count_else u1 w b 512 0 x mu (λ e. omega arith) nb ∙ count_else v1 u a 512 0 x mv (λ e. omega arith) na);
    } in
    let ec = edges_fewer (holds v) (holds w) a b 512 la lb sy lo h after in
    let co = wh.counted in
    let fr = wh.free in
    let tu = count_to v1 u a 512 0 mv in
    let tw = count_to u1 w b 512 0 mu in
    record {
      some_pair = omega arith;
      after = after;
      whole = record {
        ranged = moved_ranged u1 w b 512 0 m mu du (moved_ranged v1 u a 512 0 m mv ds wh.ranged da p0) db p1;
        disjoint = moved_disjoint u1 w b 512 0 mu du db p1;
        inside = inside_cut u w b tb.k mu du wt lb (inside_cut v u a sa.k mv ds wa la wh.inside);
        single = single_cut u w b tb.k mu du wt lb su;
        symmetric = parted_symmetric (holds v) (holds w) a b sy after;
        loopless = parted_loopless (holds v) (holds w) a b lo after;
        degrees = degrees_fewer w v a b more wh.degrees;
        free = omega arith;
        counted = omega arith;
      };
    }
