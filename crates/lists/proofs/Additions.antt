-- One addition after another.
use Rattle.std.proofs.Common.{◌≡◌, ℕ, ◌≤◌, ◌-◌, List, [], ◌++◌, drop, sym, refl, ap, ◌∙◌, arith}
use Rattle.std.proofs.lemmas.List.{append_assoc, append-nil, drop-drop, length-append}
use Rattle.lists.specs.Entries.{Added, entries}
use Rattle.lists.specs.declared.List.{List as LentList}

pub added_none : {T : Type 0} (l : LentList T) → Added l l []
added_none l = record { longer = omega arith; entries = sym (append-nil (entries l)); behind = refl; room = refl }

behind_more : {T : Type 0} (xs ys : List T) (i j : ℕ) → i ≤ j → drop i xs ≡ drop i ys → drop j xs ≡ drop j ys
behind_more xs ys i j h e = grind (arith, drop-drop (j - i) i xs, drop-drop (j - i) i ys, ap (drop (j - i)) e)

pub added_both : {T : Type 0} (l m n : LentList T) (xs ys : List T) → Added l m xs → Added m n ys → Added l n (xs ++ ys)
added_both l m n xs ys a b = record {
  longer = omega (arith, length-append xs ys);
  entries = cc (append_assoc (entries l) xs ys);
  behind = b.behind ∙ behind_more _ _ m.len n.len (omega arith) a.behind;
  room = b.room ∙ a.room;
}
