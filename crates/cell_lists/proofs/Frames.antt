-- Moves and cuts among the first m cells leave the cells past them as they were.
use Rattle.std.proofs.Common.{◌≡◌, ℕ, ◌+◌, ◌<◌, ◌≤◌, List, length, get_or, drop, sym, ◌∙◌, arith, length-drop, get_or-drop}
use Rattle.std.proofs.lemmas.Bool.Decides.{nat_tests}
use Rattle.std.proofs.lemmas.List.{ext_get_or}
use Rattle.cell_lists.specs.declared.cell.Cell.{Cell}
use Rattle.cell_lists.specs.declared.chains.Memory.{Memory}
use Rattle.cell_lists.specs.Chains.{Cut, Moved, View}
use Rattle.cell_lists.specs.Memory.{Kept, blank, view}

-- from the cell m on nothing has changed
pub record Past (m : ℕ) (v w : View) : Type 0 where
  pub neighbours : (i : ℕ) → m ≤ i → w.neighbour i ≡ v.neighbour i
  pub links : (i : ℕ) → m ≤ i → w.next i ≡ v.next i

pub past_moved : (v w : View) (f t b m : ℕ) → Moved v w f t b → v.head f < m → Past m v w
past_moved v w f t b m mv l = record {
  neighbours = λ i h. let e = mv.neighbours i in grind (arith, nat_tests);
  links = λ i h. let e = mv.links i in grind (arith, nat_tests);
}

pub past_cut : (v w : View) (a c m : ℕ) → Cut v w a c → v.head a < m → c < m → Past m v w
past_cut v w a c m mv l k = record {
  neighbours = λ i h. let e = mv.neighbours i in grind (arith, nat_tests);
  links = λ i h. let e = mv.links i in grind (arith, nat_tests);
}

same_cell : (c d : Cell) → c.neighbour ≡ d.neighbour → c.next ≡ d.next → c ≡ d
same_cell c d p q i = record { neighbour = p i; next = q i }

past_drop : (cs ds : List Cell) (m : ℕ) → length ds ≡ length cs → ((i : ℕ) → m ≤ i → get_or ds i blank ≡ get_or cs i blank) → drop m ds ≡ drop m cs
past_drop cs ds m e h =
    ext_get_or blank (drop m ds) (drop m cs) (simp length-drop (omega arith))
    (λ i l. get_or-drop m ds i blank ∙ h (m + i) (omega arith) ∙ sym (get_or-drop m cs i blank))

-- two steps, one after the other
pub beyond_two : (k l n : Memory) (m : ℕ) → Kept k l → Kept l n → Past m (view k) (view l) → Past m (view l) (view n)
    → drop m n.cells.now ≡ drop m k.cells.now
beyond_two k l n m s t p q =
    past_drop k.cells.now n.cells.now m (t.same_length ∙ s.same_length)
    (λ i h. same_cell (get_or n.cells.now i blank) (get_or k.cells.now i blank) (q.neighbours i h ∙ p.neighbours i h) (q.links i h ∙ p.links i h))
