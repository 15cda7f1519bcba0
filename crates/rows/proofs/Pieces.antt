-- Pieces appended one after the other.
use Rattle.std.proofs.Common.{◌≡◌, ℕ, ◌+◌, ◌-◌, ◌<◌, true, false, List, [], ◌∷◌, ◌++◌, length, take, codes, sym, refl, ◌∙◌, inl, inr, append_assoc, arith}
use Rattle.std.proofs.lemmas.Bool.Decides.{nat_tests}
use Rattle.std.proofs.lemmas.List.{length-append}
use Rattle.std.proofs.lemmas.Bool.{cases_lt}
use Rattle.std.specs.List.{flat_map}
use Rattle.lifts.specs.declared.fault.Fault.{Fault}
use Rattle.rows.specs.Fields.{field_text}
use Rattle.rows.specs.Texts.{Extended, Full, Text, fitting, line_end, pieces, row_text, written}
use Rattle.rows.specs.declared.field.Field.{Field}
use Rattle.rows.proofs.Writing.{length_written, take_written, written_nothing, written_twice}

-- the pieces, one after the other
abbrev pub flat : List (List ℕ) → List ℕ
flat = flat_map (λ p. p)

-- a piece changes no length
same_length : (a b : Text) (p : List ℕ) → Extended a p b → length b.bytes ≡ length a.bytes
same_length a b p h = rw h.bytes (length_written _ _ p h.fits)

-- what is written behind a piece is written with it
written_behind : (a b : Text) (p q : List ℕ) → Extended a p b → written b.bytes b.end q ≡ written a.bytes a.end (p ++ q)
written_behind a b p q h = rw (h.bytes, h.end) (written_twice _ _ p q (omega arith))

-- two pieces, one behind the other, are one
pub extended_twice : (a b c : Text) (p q : List ℕ) → Extended a p b → Extended b q c → Extended a (p ++ q) c
extended_twice a b c p q h k =
    let n = same_length a b p h in
    record {
      fits = simp length-append (omega arith);
      bytes = k.bytes ∙ written_behind a b p q h;
      end = simp length-append (omega arith);
    }

-- a piece for which there is no room, and more behind it
pub full_more : (a : Text) (p q : List ℕ) (f : Fault) → Full a p f → Full a (p ++ q) f
full_more a p q f h = record { short = simp length-append (omega arith); refused = h.refused }

-- a piece for which there is no room behind one for which there was
pub full_behind : (a b : Text) (p q : List ℕ) (f : Fault) → Extended a p b → Full b q f → Full a (p ++ q) f
full_behind a b p q f h k =
    let n = same_length a b p h in
    record { short = simp length-append (omega arith); refused = k.refused }

-- without room nothing fits
no_room : (ps : List (List ℕ)) → fitting 0 ps ≡ []
no_room [] = refl
no_room ([] ∷ ps) = no_room ps
no_room ((x ∷ p) ∷ ps) = grind (arith, nat_tests)

-- nor behind a piece that does not fit
fitting_none : (n e : ℕ) (p : List ℕ) (ps : List (List ℕ)) → n < e + length p → fitting (n - e) (p ∷ ps) ≡ []
fitting_none n e [] ps h = let z : n - e ≡ 0 = omega arith in rw z (no_room ps)
fitting_none n e (x ∷ p) ps h = grind (arith, nat_tests)

-- Behind the text stands what fitted of the pieces, and there was no room for all.
pub record Stopped (a : Text) (ps : List (List ℕ)) (bs : List ℕ) (f : Fault) : Type 0 where
  pub full : Full a (flat ps) f
  pub bytes : bs ≡ written a.bytes a.end (fitting (length a.bytes - a.end) ps)

-- at the first piece
pub stops : (a : Text) (p : List ℕ) (ps : List (List ℕ)) (bs : List ℕ) (f : Fault) → Full a p f → bs ≡ a.bytes → Stopped a (p ∷ ps) bs f
stops a p ps bs f h e =
    record {
      full = full_more a p (flat ps) f h;
      bytes = rw (fitting_none _ a.end p ps h.short, written_nothing) e;
    }

-- at a later one
pub stops_later : (a b : Text) (p : List ℕ) (ps : List (List ℕ)) (bs : List ℕ) (f : Fault) → Extended a p b → Stopped b ps bs f → Stopped a (p ∷ ps) bs f
stops_later a b p ps bs f h k =
    let n = length a.bytes - a.end in
    let m = same_length a b p h in
    let room : length b.bytes - b.end ≡ n - length p = omega arith in
    let rest = fitting (n - length p) ps in
    let more : fitting n (p ∷ ps) ≡ p ++ rest = grind (arith, nat_tests) in
    record {
      full = full_behind a b p (flat ps) f h k.full;
      bytes = k.bytes ∙ rw (room, more) (written_behind a b p _ h);
    }

-- what stands behind the text is no part of it
pub stopped_text : (a : Text) (ps : List (List ℕ)) (bs : List ℕ) (f : Fault) → Stopped a ps bs f → take a.end bs ≡ take a.end a.bytes
stopped_text a ps bs f h =
    elim (cases_lt (length a.bytes) a.end) [
      | inl l ↦ let z : length a.bytes - a.end ≡ 0 = omega arith in rw (h.bytes, z, no_room, written_nothing) refl
      | inr l ↦ rw h.bytes (take_written _ _ _ _ (omega arith) l)
    ]

-- the pieces behind the first field are the rest of the row's text
rest_text : (fs : List Field) → flat (pieces false fs) ≡ flat_map (λ g. codes "," ++ field_text g) fs ++ line_end
rest_text [] = refl
rest_text (f ∷ fs) = rw (rest_text fs) (sym (append_assoc (codes "," ++ field_text f) _ line_end))

-- the pieces of a row are its text
pub row_pieces : (fs : List Field) → flat (pieces true fs) ≡ row_text fs
row_pieces [] = refl
row_pieces (f ∷ fs) = rw (rest_text fs) refl

-- From `a` with the pieces `ps` to come, the way has led to `b` with `qs` to come.
pub record Led (a : Text) (ps : List (List ℕ)) (b : Text) (qs : List (List ℕ)) : Type 0 where
  pub stopped : (bs : List ℕ) (f : Fault) → Stopped b qs bs f → Stopped a ps bs f
  pub done : (c : Text) → Extended b (flat qs) c → Extended a (flat ps) c

-- before the first piece
pub led_none : (a : Text) (ps : List (List ℕ)) → Led a ps a ps
led_none a ps = record { stopped = λ bs f h. h; done = λ c h. h }

-- one piece more
pub led_more : (a b c : Text) (ps : List (List ℕ)) (q : List ℕ) (qs : List (List ℕ)) → Led a ps b (q ∷ qs) → Extended b q c → Led a ps c qs
led_more a b c ps q qs l h =
    record {
      stopped = λ bs f k. l.stopped bs f (stops_later b c q qs bs f h k);
      done = λ d k. l.done d (extended_twice b c d q (flat qs) h k);
    }
