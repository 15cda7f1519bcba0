use Rattle.std.proofs.Common.{◌≡◌, ◌+◌, ◌-◌, ◌*◌, ◌/◌, ◌%◌, ℕ, length, get_or, arith}
use Rattle.bit_matrix.proofs.Scan.{first_word, next_word, no_words, row_long, scan_done, scan_found, scan_on}
use Rattle.bit_matrix.proofs.matrix.BitMatrix.next_in_row.Goals.{In_ok-word}
use Rattle.bit_matrix.proofs.matrix.BitMatrix.next_in_row.Goals as goal

-- the word that `from` is in, the words after it, and how many the row has
first : (c : In_ok-word) → c.in_ok-word.word.now ≡ get_or c.row.result.now (c.args.from / 64) 0
first c = first_word c.row.result.now c.in_ok-get.field-0.now c.in_ok-word.later.now (c.args.from / 64) c.in_ok-word.word.now c.in_ok-get.ensures.lookup.0.2 c.in_ok-word.ensures.cases.0

next : (c : In_ok-word) (k : ℕ) → get_or c.in_ok-word.later.now k 0 ≡ get_or c.row.result.now (c.args.from / 64 + 1 + k) 0
next c = next_word c.row.result.now c.in_ok-get.field-0.now c.in_ok-word.later.now (c.args.from / 64) c.in_ok-word.word.now c.in_ok-get.ensures.lookup.0.2 c.in_ok-word.ensures.cases.0

long : (c : In_ok-word) → length c.row.result.now ≡ c.args.from / 64 + 1 + length c.in_ok-word.later.now
long c = row_long c.row.result.now c.in_ok-get.field-0.now c.in_ok-word.later.now (c.args.from / 64) c.in_ok-word.word.now c.in_ok-get.ensures.lookup.0.2 c.in_ok-word.ensures.cases.0

pub returns-in_err-get-clause-next : goal.returns-in_err-get-clause-next
returns-in_err-get-clause-next c =
    let h = c.in_err-get.ensures.lookup in
    let past = scan_done c.args.self.now.words.now c.args.a.value (c.args.from / 64) c.args.from (omega arith) (λ q l m. absurd (omega arith))
    (rw (← c.row.ensures.words) (omega (arith, h))) in
    rw c.from_residual.ensures past

pub returns-in_err-word-clause-next : goal.returns-in_err-word-clause-next
returns-in_err-word-clause-next c =
    let h = no_words c.row.result.now c.in_ok-get.field-0.now (c.args.from / 64) c.in_ok-get.ensures.lookup.0.2 c.in_err-word.ensures.cases in
    let past = scan_done c.args.self.now.words.now c.args.a.value (c.args.from / 64) c.args.from (omega arith) (λ q l m. absurd (omega arith))
    (rw (← c.row.ensures.words) h) in
    rw c.from_residual-in_err-word.ensures past

pub returns-in-Some-clause-next : goal.returns-in-Some-clause-next
returns-in-Some-clause-next c =
    let e = first (goal.at.returns-in-Some-clause-next c).In_ok-word in
    let m : c.args.from % 64 ≡ c.args.from - c.args.from / 64 * 64 = omega arith in
    scan_found c.args.self.now.words.now c.args.a.value (c.args.from / 64) c.args.from (omega arith) (λ q l m. absurd (omega arith)) c.in-Some.i
    c.in-Some.ensures.within (rw (e, c.row.ensures.words, m) at c.in-Some.ensures.next)

pub loop-k-init : goal.loop-k-init
loop-k-init c = λ q l b.
    let e = first (goal.at.loop-k-init c).In_ok-word in
    let m : c.args.from % 64 ≡ c.args.from - c.args.from / 64 * 64 = omega arith in
    scan_on c.args.self.now.words.now c.args.a.value (c.args.from / 64) c.args.from (omega arith) (λ q l m. absurd (omega arith))
    (rw (e, c.row.ensures.words, m) at c.in_default.ensures.next) q l (omega arith)

pub returns-in-Some-lowest_bit-clause-next : goal.returns-in-Some-lowest_bit-clause-next
returns-in-Some-lowest_bit-clause-next c =
    let e = next (goal.at.returns-in-Some-lowest_bit-clause-next c).In_ok-word c.loop-k.k in
    let m : c.args.from - (c.args.from / 64 + 1 + c.loop-k.k) * 64 ≡ 0 = omega arith in
    scan_found c.args.self.now.words.now c.args.a.value (c.args.from / 64 + 1 + c.loop-k.k) c.args.from (omega arith) c.loop-k.invariant c.in-Some-lowest_bit.i
    c.in-Some-lowest_bit.ensures.within (rw m (rw (e, c.row.ensures.words) at c.in-Some-lowest_bit.ensures.lowest))

pub loop-k-preserved : goal.loop-k-preserved
loop-k-preserved c = λ q l b.
    let e = next (goal.at.loop-k-preserved c).In_ok-word c.loop-k.k in
    let m : c.args.from - (c.args.from / 64 + 1 + c.loop-k.k) * 64 ≡ 0 = omega arith in
    scan_on c.args.self.now.words.now c.args.a.value (c.args.from / 64 + 1 + c.loop-k.k) c.args.from (omega arith) c.loop-k.invariant
    (rw m (rw (e, c.row.ensures.words) at c.in_default-lowest_bit.ensures.lowest)) q l (omega arith)

pub returns-clause-next : goal.returns-clause-next
returns-clause-next c =
    let n = long (goal.at.returns-clause-next c).In_ok-word in
    scan_done c.args.self.now.words.now c.args.a.value (c.args.from / 64 + 1 + c.loop-k.k) c.args.from (omega arith) c.loop-k.invariant
    (rw (← c.row.ensures.words) (omega (arith, n)))
