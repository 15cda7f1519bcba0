use Rattle.std.proofs.Common.{◌≡◌, ℕ, zero, suc, ◌+◌, ◌*◌, ◌/◌, ◌^◌, ◌<◌, ◌≤◌, length, decimal, Some, None, Option, IfNone, IfSome, arith, rules}
use Rattle.std.specs.Option.{unwrap_or}
use Rattle.std.proofs.Math.Nat.{pow-succ'}
use Rattle.std.proofs.lemmas.Fmt.{decimal_digit, decimal_step}
use Rattle.std.proofs.lemmas.List.{length-append}
use Rattle.rows.proofs.row.decimal_len.Goals as goal

power_positive : (k : ℕ) → 0 < 10 ^ k
power_positive zero = omega arith
power_positive (suc k) = omega (arith, pow-succ' 10 k, power_positive k)

-- a number between two powers of ten has as many digits as the lower one
between_powers : (k n : ℕ) → n < 2 ^ 64 → 10 ^ k ≤ n → n < 10 * 10 ^ k → length (decimal n) ≡ k + 1
between_powers zero n small low high = rw (decimal_digit n (omega arith)) (omega arith)
between_powers (suc k) n small low high =
    let p = power_positive k in
    let s = pow-succ' 10 k in
    let h : 10 ≤ n = omega arith in
    let shorter = between_powers k (n / 10) (omega arith) (omega arith) (omega arith) in
    rw (decimal_step n h small) (simp length-append (omega arith))

by_logarithm : (n : ℕ) (r : Option ℕ) → n < 2 ^ 64 → IfNone r (n ≡ 0) → IfSome r (λ k. 10 ^ k ≤ n) → IfSome r (λ k. n < 10 * 10 ^ k) → unwrap_or r 0 + 1 ≡ length (decimal n)
by_logarithm n None small nothing low high = rw (decimal_digit n (omega arith)) (omega arith)
by_logarithm n (Some k) small nothing low high = let e = between_powers k n small low high in omega arith

pub returns-clause-value : goal.returns-clause-value
returns-clause-value c =
    let e = by_logarithm c.args.n c.checked_ilog10.result (omega arith) c.checked_ilog10.ensures.none c.checked_ilog10.ensures.power_le c.checked_ilog10.ensures.next_power_gt in
    search rules
