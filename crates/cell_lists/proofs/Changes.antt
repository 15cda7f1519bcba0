-- Joining and parting a pair of lists that keep their ghost fields.
use Rattle.std.proofs.Common.{◌≡◌, ℕ, ◌+◌, ◌-◌, ◌*◌, ◌<◌, true, false, length, drop, sym, ap, ◌∙◌, arith}
use Rattle.lifts.specs.declared.lift.LiftNumber.{LiftNumber}
use Rattle.lifts.specs.declared.lift.LiftPair.{LiftPair}
use Rattle.conflicts.proofs.Verdicts.{neighbour_other}
use Rattle.cell_lists.specs.declared.chains.Memory.{Memory}
use Rattle.cell_lists.specs.declared.lists.CellLists.{CellLists}
use Rattle.cell_lists.specs.Chains.{Cut, Moved, Stands, View}
use Rattle.cell_lists.specs.Lists.{standing}
use Rattle.cell_lists.specs.Memory.{Kept, view}
use Rattle.cell_lists.proofs.Frames.{beyond_two, past_cut, past_moved}
use Rattle.cell_lists.proofs.Kept.{Fields, fields_of, whole_of}
use Rattle.cell_lists.proofs.Steps.{SecondCut, SecondMove, second_cut, second_move, stands_within, top_within}
use Rattle.cell_lists.proofs.Whole.{Joined, Parted, joined, parted}

-- ---- a pair that may be joined

pub record Joinable (l : CellLists) (a b : ℕ) : Type 0 where
  pub first : a < 512
  pub second : b < 512
  pub other : a ≡ b → ⊥
  pub missing : standing l a b ≡ false
  pub spare : l.pairs < l.capacity

pub joinable : (l : CellLists) (p : LiftPair) (m n : LiftNumber) → m ≡ p.first → n ≡ p.second
    → standing l p.first.value p.second.value ≡ false → l.pairs < l.capacity → Joinable l m.value n.value
joinable l p m n em en missing spare = record {
  first = omega (arith, m.in_range);
  second = omega (arith, n.in_range);
  other = λ e. p.different (sym (ap (λ (t : LiftNumber). t.value) em) ∙ e ∙ ap (λ (t : LiftNumber). t.value) en);
  missing = rw (em, en) missing;
  spare = spare;
}

pub two_free : (l : CellLists) (a b : ℕ) → Joinable l a b → 1 < (view l.memory).count 512
two_free l a b j = omega (arith, l.free, j.spare)

pub join_second : {l : CellLists} {a b : ℕ} (u : View) → Joinable l a b → Moved (view l.memory) u 512 a b → SecondMove u b (2 * l.capacity)
join_second {l} {a} {b} u j mv =
    second_move (view l.memory) u a b (2 * l.capacity) l.pairs (whole_of l) j.first j.second j.other (two_free l a b j) mv

-- over the memory m its two cells have come to the chains of a and b
pub record Joining (l : CellLists) (m n : Memory) (a b : ℕ) : Type 0 where
  pub pair : Joinable l a b
  pub first : Moved (view l.memory) (view m) 512 a b
  pub second : Moved (view m) (view n) 512 b a
  pub first_kept : Kept l.memory m
  pub second_kept : Kept m n

pub join_done : {l : CellLists} {m n : Memory} {a b : ℕ} → Joining l m n a b → Joined (view l.memory) (view n) a b (2 * l.capacity) l.pairs
join_done {l} {m} {n} {a} {b} s =
    let j = s.pair in
    joined (view l.memory) (view m) (view n) a b (2 * l.capacity) l.pairs (whole_of l) s.first s.second (two_free l a b j) j.first j.second j.other j.missing

pub join_fields : {l : CellLists} {m n : Memory} {a b : ℕ} → Joining l m n a b → Fields (view n) (length n.cells.now) (l.pairs + 1) l.capacity
join_fields {l} {m} {n} s =
    fields_of (view n) (length n.cells.now) (l.pairs + 1) l.capacity (omega (arith, l.long, s.first_kept.same_length, s.second_kept.same_length)) l.most (join_done s).whole

pub join_beyond : {l : CellLists} {m n : Memory} {a b : ℕ} → Joining l m n a b → drop (2 * l.capacity) n.cells.now ≡ drop (2 * l.capacity) l.memory.cells.now
join_beyond {l} {m} {n} {a} {b} s =
    let e = 2 * l.capacity in
    let two = two_free l a b s.pair in
    beyond_two l.memory m n e s.first_kept s.second_kept
    (past_moved (view l.memory) (view m) 512 a b e s.first (top_within (view l.memory) e 512 l.ranged (omega arith)))
    (past_moved (view m) (view n) 512 b a e s.second (join_second (view m) s.pair s.first).top)

-- ---- a pair that stands, at its two cells

pub record Partable (l : CellLists) (a b c d : ℕ) : Type 0 where
  pub first : a < 512
  pub second : b < 512
  pub other : a ≡ b → ⊥
  pub at_first : Stands (view l.memory) a b c
  pub at_second : Stands (view l.memory) b a d

pub partable : (l : CellLists) (a b : LiftNumber) (c d : ℕ) → (standing l a.value b.value ≡ true) × Stands (view l.memory) a.value b.value c
    → Stands (view l.memory) b.value a.value d → Partable l a.value b.value c d
partable l a b c d s t = record {
  first = omega (arith, a.in_range);
  second = omega (arith, b.in_range);
  other = neighbour_other (standing l) a.value b.value l.loopless s.0;
  at_first = s.1;
  at_second = t;
}

pub part_second : {l : CellLists} {a b c d : ℕ} (u : View) → Partable l a b c d → Cut (view l.memory) u a c → SecondCut (view l.memory) u b d (2 * l.capacity)
part_second {l} {a} {b} {c} {d} u p cv =
    second_cut (view l.memory) u a b c d (2 * l.capacity) l.pairs (whole_of l) p.first p.second p.other p.at_first p.at_second cv

-- over the memory m its two cells have become free
pub record Parting (l : CellLists) (m n : Memory) (a b c d : ℕ) : Type 0 where
  pub pair : Partable l a b c d
  pub first : Cut (view l.memory) (view m) a c
  pub second : Cut (view m) (view n) b d
  pub first_kept : Kept l.memory m
  pub second_kept : Kept m n

pub part_done : {l : CellLists} {m n : Memory} {a b c d : ℕ} → Parting l m n a b c d → Parted (view l.memory) (view n) a b (2 * l.capacity) l.pairs
part_done {l} {m} {n} {a} {b} {c} {d} s =
    let p = s.pair in
    parted (view l.memory) (view m) (view n) a b c d (2 * l.capacity) l.pairs (whole_of l) p.first p.second p.at_first p.at_second s.first s.second

pub part_fields : {l : CellLists} {m n : Memory} {a b c d : ℕ} → Parting l m n a b c d → Fields (view n) (length n.cells.now) (l.pairs - 1) l.capacity
part_fields {l} {m} {n} s =
    fields_of (view n) (length n.cells.now) (l.pairs - 1) l.capacity (omega (arith, l.long, s.first_kept.same_length, s.second_kept.same_length)) l.most (part_done s).whole

pub part_beyond : {l : CellLists} {m n : Memory} {a b c d : ℕ} → Parting l m n a b c d → drop (2 * l.capacity) n.cells.now ≡ drop (2 * l.capacity) l.memory.cells.now
part_beyond {l} {m} {n} {a} {b} {c} {d} s =
    let e = 2 * l.capacity in
    let p = s.pair in
    let within = p.at_first.within in
    let t = part_second (view m) p s.first in
    beyond_two l.memory m n e s.first_kept s.second_kept
    (past_cut (view l.memory) (view m) a c e s.first (top_within (view l.memory) e a l.ranged (omega arith)) (stands_within (view l.memory) e a b c l.ranged p.at_first))
    (past_cut (view m) (view n) b d e s.second t.top t.cell)
