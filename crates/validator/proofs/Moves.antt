-- A validator that is given more bytes.
use Rattle.std.proofs.Common.{◌≡◌, ◌≢◌, ℕ, ◌+◌, ◌-◌, ◌<◌, ◌≤◌, Bool, true, false, if◌then◌else◌, List, [], ◌∷◌, ◌++◌, length, take, drop, sym, refl, ap, ◌∙◌, arith, length-take, take-add}
use Rattle.std.specs.Prelude.{◌==◌}
use Rattle.std.proofs.lemmas.Bool.Decides.{nat_tests}
use Rattle.framing.specs.Buffer.{Ended, Keeps, Opens}
use Rattle.framing.specs.declared.LineBuffer.{LineBuffer}
use Rattle.framing.proofs.Cuts.{line_ends, line_goes_on}
use Rattle.rows.proofs.Writing.{written_nothing, written_twice}
use Rattle.rows.specs.Texts.{Extended, Text, row_text}
use Rattle.std.proofs.lemmas.List.{append-nil, append_assoc, drop-drop, length-append, nil_from_length, take_all, take_at}
use Rattle.validator.specs.Progress.{Finished, Further, Validated}
use Rattle.validator.specs.Refusals.{line_refusal}
use Rattle.validator.specs.declared.file.Validator.{Validator}
use Rattle.validator.specs.Report.{faults_from, faults_of, header_fields, line_faults, report, rows_of}
use Rattle.validator.proofs.Faults.{front_tells, faults_push, report_push}

-- one line more is reported and counted
line_reported : (input text : List ℕ) (v : Validator) (kept : LineBuffer) (refused : ℕ) (body : List ℕ) → v.number < 1000001
    → (p : Validated input text v)
    → Keeps kept body
    → refused ≡ v.refused + length (line_faults (v.number + 1) (line_refusal (v.number + 1) kept.bytes.items))
    → (refused ≡ length (faults_of (p.lines ++ (body ∷ [])))) × (text ++ rows_of (line_faults (v.number + 1) (line_refusal (v.number + 1) kept.bytes.items)) ≡ report (p.lines ++ (body ∷ [])))
line_reported input text v kept refused body h p keeps count =
    let few : length p.lines < 1000001 = omega (arith, p.numbered) in
    let tells = front_tells (length p.lines + 1) body in
    let longer = length-append (faults_of p.lines) (line_faults (length p.lines + 1) (line_refusal (length p.lines + 1) body)) in (
      rw (faults_push p.lines body few, longer) (cc),
      rw (← report_push p.lines body few) (cc),
    )

-- what was reported of a line that ended, and its number
pub record Closed (before after : Text) (v w : Validator) (ended : LineBuffer) : Type 0 where
  pub numbers : w.number ≡ v.number + 1
  pub counts : w.refused ≡ v.refused + length (line_faults (v.number + 1) (line_refusal (v.number + 1) ended.bytes.items))
  pub text : Extended before (rows_of (line_faults (v.number + 1) (line_refusal (v.number + 1) ended.bytes.items))) after

-- a line ended and was reported
pub line_closed : (input text taken : List ℕ) (before after : Text) (v w : Validator) (ended : LineBuffer) → v.number < 1000001
    → (p : Validated input text v) → Ended ended (p.rest ++ taken) → Closed before after v w ended → Opens w.line []
    → Further input text taken before after w
line_closed input text taken before after v w ended h p e closed clears =
    let n = length-append p.lines (e.body ∷ []) in
    let told = line_reported input text v ended w.refused e.body h p e.keeps closed.counts in
    record {
      piece = _;
      bytes = closed.text.bytes;
      end = closed.text.end;
      validated = record {
        lines = p.lines ++ (e.body ∷ []);
        rest = [];
        cut = line_ends input taken p.lines p.rest e.body p.cut e.body_unbroken e.split;
        opens = clears;
        few = omega (arith, p.numbered);
        numbered = omega (arith, p.numbered, closed.numbers);
        counted = told.0;
        reported = told.1;
      };
    }

-- the block ended before the line did
pub line_open : (input text taken : List ℕ) (before : Text) (v w : Validator)
    → (p : Validated input text v) → Opens w.line (p.rest ++ taken) → w.number ≡ v.number → w.refused ≡ v.refused
    → Further input text taken before before w
line_open input text taken before v w p o number refused =
    record {
      piece = [];
      bytes = sym (written_nothing before.bytes before.end);
      end = omega arith;
      validated = record {
        lines = p.lines;
        rest = p.rest ++ taken;
        cut = line_goes_on input taken p.lines p.rest p.cut o.xs_unbroken;
        opens = o;
        few = p.few;
        numbered = number ∙ p.numbered;
        counted = refused ∙ p.counted;
        reported = append-nil text ∙ p.reported;
      };
    }

-- what is given in two parts is given
pub further_twice : (input text taken more : List ℕ) (before middle after : Text) (v w : Validator) → before.end ≤ length before.bytes
    → Further input text taken before middle v
    → ((input text : List ℕ) → Validated input text v → Further input text more middle after w)
    → Further input text (taken ++ more) before after w
further_twice input text taken more before middle after v w h f next =
    let g = next (input ++ taken) (text ++ f.piece) f.validated in
    let l = length-append f.piece g.piece in
    let twice = written_twice before.bytes before.end f.piece g.piece h in
    record {
      piece = f.piece ++ g.piece;
      bytes = g.bytes ∙ rw (f.bytes, f.end) twice;
      end = omega (arith, f.end, g.end);
      validated = rw (← append_assoc input taken more, ← append_assoc text f.piece g.piece) g.validated;
    }

-- nothing is given
pub none_further : (input text : List ℕ) (before : Text) (v : Validator) → Validated input text v → Further input text [] before before v
none_further input text before v p =
    record {
      piece = [];
      bytes = sym (written_nothing before.bytes before.end);
      end = omega arith;
      validated = rw (append-nil input, append-nil text) p;
    }

-- the part of a block between two places
pub part_more : (block : List ℕ) (at place next : ℕ) → at ≤ place → place ≤ next → take (place - at) (drop at block) ++ take (next - place) (drop place block) ≡ take (next - at) (drop at block)
part_more block at place next h k =
    let d : at + (place - at) ≡ place = omega arith in
    let e : (place - at) + (next - place) ≡ next - at = omega arith in
    let on = drop-drop (place - at) at block in
    let more = take-add (place - at) (next - place) (drop at block) in
    cc

-- the last line was ended
pub last_ended : (input text : List ℕ) (before : Text) (v : Validator) → (p : Validated input text v) → p.rest ≡ [] → Finished input text before before v
last_ended input text before v p e =
    record {
      piece = [];
      bytes = sym (written_nothing before.bytes before.end);
      end = omega arith;
      lines = p.lines;
      file = record { ended = p.lines; rest = p.rest; cut = p.cut; all = rw e };
      reported = append-nil text ∙ p.reported;
      numbered = simp length-take (omega (arith, p.few, p.numbered));
      counted = p.counted;
    }

-- the last line that is read was read, so what follows it does not count
pub reading_ended : (input text : List ℕ) (before : Text) (v : Validator) → (p : Validated input text v) → 1000001 ≤ v.number → Finished input text before before v
reading_ended input text before v p h =
    record {
      piece = [];
      bytes = sym (written_nothing before.bytes before.end);
      end = omega arith;
      lines = all (length p.rest == 0);
      file = record { ended = p.lines; rest = p.rest; cut = p.cut; all = refl };
      reported = append-nil text ∙ p.reported ∙ ap (λ ls. row_text header_fields ++ rows_of (faults_from 1 ls)) (front (length p.rest == 0));
      numbered = p.numbered ∙ ap length (sym (take_all 1000001 p.lines p.few) ∙ front (length p.rest == 0));
      counted = p.counted ∙ ap (λ ls. length (faults_from 1 ls)) (front (length p.rest == 0));
    }
  where
    all : Bool → List (List ℕ)
    all t = if t then p.lines else p.lines ++ (p.rest ∷ [])

    front : (t : Bool) → take 1000001 p.lines ≡ take 1000001 (all t)
    front true = refl
    front false = take_all 1000001 p.lines p.few ∙ sym (take_at p.lines (p.rest ∷ []) 1000001 (omega (arith, p.numbered, p.few)))

-- the last line lacked its CRLF
pub last_reported : (input text : List ℕ) (before after : Text) (v w : Validator) (kept : LineBuffer) → v.number < 1000001
    → (p : Validated input text v) → p.rest ≢ [] → Keeps kept p.rest → Closed before after v w kept
    → Finished input text before after w
last_reported input text before after v w kept h p begun keeps closed =
    let lines = p.lines ++ (p.rest ∷ []) in
    let n = length-append p.lines (p.rest ∷ []) in
    let told = line_reported input text v kept w.refused p.rest h p keeps closed.counts in
    record {
      piece = _;
      bytes = closed.text.bytes;
      end = closed.text.end;
      lines = lines;
      file = record { ended = p.lines; rest = p.rest; cut = p.cut; all = grind (arith, nat_tests, nil_from_length p.rest) };
      reported = told.1;
      numbered = simp length-take (omega (arith, p.numbered, closed.numbers));
      counted = told.0;
    }
