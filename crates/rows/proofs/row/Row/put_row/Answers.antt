use Rattle.std.proofs.Common.{◌≡◌, ℕ, List, [], ◌∷◌, true, Ok, Err, Result, MatchResult, ◌∙◌, rules}
use Rattle.std.proofs.lemmas.List.{drop_all, drop_more}
use Rattle.lifts.specs.declared.fault.Fault.{Fault}
use Rattle.rows.specs.Texts.{Appended, Extended, Full, Text, WholeRow, line_end, pieces, row_text, text_to}
use Rattle.rows.specs.declared.field.Field.{Field}
use Rattle.rows.specs.declared.field.Field.TheVariants.{Empty}
use Rattle.rows.proofs.Pieces.{Led, led_more, row_pieces, stopped_text, stops}
use Rattle.rows.proofs.row.Row.put_row.Goals as goal

-- a piece for which there is no room leaves the row unfinished
unfinished : (a b : Text) (fs : List Field) (q : List ℕ) (qs : List (List ℕ)) (bs : List ℕ) (e : ℕ) (f : Fault) → Led a (pieces true fs) b (q ∷ qs) → Full b q f → bs ≡ b.bytes → e ≡ a.end → WholeRow a fs (text_to bs e) (Err f)
unfinished a b fs q qs bs e f l h same s =
    let k = l.stopped bs f (stops b q qs bs f h same) in
    (rw (row_pieces fs) at k.full, record { end = s; text = stopped_text a (pieces true fs) bs f k; bytes = k.bytes })

-- the line's end finishes it
finished : (a b c : Text) (fs : List Field) (e : ℕ) → Led a (pieces true fs) b (line_end ∷ []) → Extended b line_end c → e ≡ c.end → Extended a (row_text fs) (text_to c.bytes e)
finished a b c fs e l h s = let w = rw (row_pieces fs) at (l.done c h) in record { fits = w.fits; bytes = w.bytes; end = s ∙ w.end }

-- so the line's end finishes it, or leaves it unfinished
ended : (a b c : Text) (fs : List Field) (s e : ℕ) (r : Result (Unit {0}) Fault) (P Q : Type 0) → Led a (pieces true fs) b (line_end ∷ []) → s ≡ a.end → Appended b line_end c r → MatchResult r (λ _. (e ≡ c.end) × P) (λ _. (e ≡ s) × Q) → WholeRow a fs (text_to c.bytes e) r
ended a b c fs s e (Ok _) P Q l same h k = finished a b c fs e l h k.0
ended a b c fs s e (Err f) P Q l same h k = unfinished a b fs line_end [] c.bytes e f l h.0 h.1 (k.0 ∙ same)

pub loop-field-preserved : goal.loop-field-preserved
loop-field-preserved c =
    let e = c.in_ok-put.ensures in
    let l = rw (drop_more c.args.fields.now _ Empty c.loop-field-test.true) at c.loop-field.invariant.led in
    record { loans = search rules; start = search rules; led = rw e.row.1 (led_more _ _ _ _ _ _ l e.text) }

pub returns-in_err-put-clause-text : goal.returns-in_err-put-clause-text
returns-in_err-put-clause-text c =
    let h = c.in_err-put.ensures.text in
    let l = rw (drop_more c.args.fields.now _ Empty c.loop-field-test.true) at c.loop-field.invariant.led in
    let w = unfinished _ _ _ _ _ _ c.put.new.self.start _ l h.0 h.1 (search rules) in
    search rules

pub returns-clause-text : goal.returns-clause-text
returns-clause-text c =
    let e = c.finish.ensures in
    let l = rw (drop_all _ c.args.fields.now c.loop-field-test.false) at c.loop-field.invariant.led in
    ended _ _ _ _ _ _ _ _ _ l (search rules) e.text e.row
