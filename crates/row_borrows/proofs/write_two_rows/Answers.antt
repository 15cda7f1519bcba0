use Rattle.std.proofs.Common.{◌≡◌, ℕ, true, List, [], ◌∷◌, ◌++◌, Err, append_assoc, arith, rules}
use Rattle.std.proofs.lemmas.Bool.Decides.{nat_tests}
use Rattle.lifts.specs.declared.fault.Fault.{Fault}
use Rattle.rows.specs.Fields.{field_text}
use Rattle.rows.specs.Texts.{Extended, Text, line_end, pieces, text_to}
use Rattle.rows.specs.declared.field.Field.{Field}
use Rattle.rows.proofs.Pieces.{Stopped, extended_twice, full_more, stops, stops_later}
use Rattle.row_borrows.specs.TwoRows.{TwoRows, end_with, one_row}
use Rattle.row_borrows.proofs.write_two_rows.Goals.{After-begin_row-second, In_ok-put}
use Rattle.row_borrows.proofs.write_two_rows.Goals as goal

abbrev parts : Field → Field → List (List ℕ)
parts one other = pieces true (one ∷ []) ++ pieces true (other ∷ [])

-- a piece did not fit, and the text ends as it did where the row of that piece began
stopped : (a b : Text) (one other : Field) (f : Fault) → Stopped a (parts one other) b.bytes f → b.end ≡ end_with a (one_row one) → TwoRows {X = Unit {0}} a one other b (Err f)
stopped a b one other f h e = (rw (append_assoc (field_text one) line_end (one_row other)) h.full, h.bytes, e)

-- the field of the first row stands
one_put : (c : In_ok-put) → Extended (text_to c.args.bytes.now c.args.cursor.now.end) (field_text c.args.one) (text_to c.put.new.self.bytes.now c.put.new.self.cursor.now.end)
one_put c = let b = c.begin_row-first.ensures in rw (b.bytes.0, b.cursor.0, b.row.1) at c.in_ok-put.ensures.text

-- the second row begins there
begins : (c : After-begin_row-second) → (c.begin_row-second.result.bytes.now ≡ c.finish.new.self.bytes.now) × (c.begin_row-second.result.cursor.now.end ≡ c.finish.new.self.cursor.now.end)
begins c = (search rules, search rules)

pub returns-in_err-put : goal.returns-in_err-put
returns-in_err-put c =
    let b = c.begin_row-first.ensures in
    let h = rw (b.bytes.0, b.cursor.0, b.row.1) at c.in_err-put.ensures.text in
    let full = full_more _ _ line_end _ h.0 in
    let w = stopped _ (text_to c.put.new.self.bytes.now c.put.new.self.start) c.args.one c.args.other _ (stops _ _ _ _ _ h.0 h.1) (grind (arith, nat_tests, full.short)) in
    search rules

pub returns-in_err-put-2 : goal.returns-in_err-put-2
returns-in_err-put-2 c =
    let at = goal.at.returns-in_err-put-2 c in
    let e = one_put at.In_ok-put in
    let b = begins at.After-begin_row-second in
    let h = rw (b.0, b.1, c.begin_row-second.ensures.row.1) at c.in_err-put-2.ensures.text in
    let r = extended_twice _ _ _ _ _ e c.in_ok-finish.ensures.text in
    let s = stops_later _ _ _ _ _ _ e (stops_later _ _ _ _ _ _ c.in_ok-finish.ensures.text (stops _ _ _ _ _ h.0 h.1)) in
    let w = stopped _ (text_to c.put-2.new.self.bytes.now c.put-2.new.self.start) c.args.one c.args.other _ s (grind (arith, nat_tests, r.fits, r.end)) in
    search rules

pub returns-in_err-finish-2 : goal.returns-in_err-finish-2
returns-in_err-finish-2 c =
    let at = goal.at.returns-in_err-finish-2 c in
    let e = one_put at.In_ok-put in
    let b = begins at.After-begin_row-second in
    let k = rw (b.0, b.1, c.begin_row-second.ensures.row.1) at c.in_ok-put-2.ensures.text in
    let h = c.in_err-finish-2.ensures.text in
    let r = extended_twice _ _ _ _ _ e c.in_ok-finish.ensures.text in
    let s = stops_later _ _ _ _ _ _ e (stops_later _ _ _ _ _ _ c.in_ok-finish.ensures.text (stops_later _ _ _ _ _ _ k (stops _ _ _ _ _ h.0 h.1))) in
    let w = stopped _ (text_to c.finish-2.new.self.bytes.now c.finish-2.new.self.start) c.args.one c.args.other _ s (grind (arith, nat_tests, r.fits, r.end)) in
    search rules

pub returns : goal.returns
returns c =
    let at = goal.at.returns c in
    let b = begins at.After-begin_row-second in
    let k = rw (b.0, b.1, c.begin_row-second.ensures.row.1) at c.in_ok-put-2.ensures.text in
    let r = extended_twice _ _ _ _ _ (one_put at.In_ok-put) c.in_ok-finish.ensures.text in
    let w = extended_twice _ _ _ _ _ r (extended_twice _ _ _ _ _ k c.in_ok-finish-2.ensures.text) in
    search rules
