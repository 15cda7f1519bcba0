-- The faults of a file's lines, one line after another.
use Rattle.std.proofs.Common.{◌≡◌, ℕ, ◌+◌, ◌<◌, List, [], ◌∷◌, ◌++◌, length, take, inl, inr, add-zero, append_assoc, arith, length-append, length-take}
use Rattle.lines.proofs.Texts.{long_line_means_nothing}
use Rattle.rows.specs.Texts.{row_text}
use Rattle.std.proofs.lemmas.Bool.{cases_lt}
use Rattle.std.proofs.lemmas.Grind.{flat_map-append}
use Rattle.std.proofs.lemmas.List.{append-nil, take_all}
use Rattle.validator.specs.Refusals.{line_refusal}
use Rattle.validator.specs.Report.{faults_from, faults_of, header_fields, line_faults, report, rows_of}

-- the first 65 bytes of a line tell as much as all of them
pub front_tells : (number : ℕ) (line : List ℕ) → line_refusal number (take 65 line) ≡ line_refusal number line
front_tells number line =
    elim (cases_lt 64 (length line)) [
      | inl long ↦ rw (long_line_means_nothing number (take 65 line) (simp length-take (omega arith)), long_line_means_nothing number line long)
      | inr short ↦ rw (take_all 65 line (omega arith))
    ]

faults_from_push : (number : ℕ) (lines : List (List ℕ)) (line : List ℕ) → faults_from number (lines ++ (line ∷ [])) ≡ faults_from number lines ++ line_faults (number + length lines) (line_refusal (number + length lines) line)
faults_from_push number [] line = simp (append-nil, add-zero)
faults_from_push number (l ∷ lines) line =
    let e : (number + 1) + length lines ≡ number + length (l ∷ lines) = omega arith in
    rw (faults_from_push (number + 1) lines line, ← e, append_assoc)

-- one line more
pub faults_push : (lines : List (List ℕ)) (line : List ℕ) → length lines < 1000001 → faults_of (lines ++ (line ∷ [])) ≡ faults_of lines ++ line_faults (length lines + 1) (line_refusal (length lines + 1) line)
faults_push lines line h =
    let l = length-append lines (line ∷ []) in
    let e : 1 + length lines ≡ length lines + 1 = omega arith in
    rw (take_all 1000001 (lines ++ (line ∷ [])) (omega arith), take_all 1000001 lines (omega arith), ← e) (faults_from_push 1 lines line)

pub report_push : (lines : List (List ℕ)) (line : List ℕ) → length lines < 1000001 → report lines ++ rows_of (line_faults (length lines + 1) (line_refusal (length lines + 1) line)) ≡ report (lines ++ (line ∷ []))
report_push lines line h = rw (faults_push lines line h, flat_map-append) (append_assoc (row_text header_fields) (rows_of (faults_of lines)) _)
