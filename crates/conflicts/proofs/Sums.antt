-- Laws of sums and counts over a bound.
use Rattle.std.proofs.Common.{◌≡◌, ◌≢◌, ℕ, zero, suc, ◌+◌, ◌<◌, ◌≤◌, Bool, true, false, refl, ap, ◌∙◌, inl, inr, add-suc, add-one, arith}
use Rattle.std.proofs.lemmas.Bool.Decides.{nat_tests}
use Rattle.std.proofs.lemmas.Bool.{cases_eq}
use Rattle.conflicts.specs.Counting.{sum, bit, count}

pub sum_zero : (f : ℕ → ℕ) → sum f 0 ≡ 0
unfolding sum
sum_zero f = refl

pub sum_suc : (f : ℕ → ℕ) (n : ℕ) → sum f (suc n) ≡ sum f n + f n
unfolding sum
sum_suc f n = refl

pub sum_le : (f g : ℕ → ℕ) (n : ℕ) → ((x : ℕ) → x < n → f x ≤ g x) → sum f n ≤ sum g n
unfolding sum
sum_le f g zero h = omega arith
sum_le f g (suc n) h = omega (arith, sum_le f g n (λ x k. h x (omega arith)), h n (omega arith))

pub sum_same : (f g : ℕ → ℕ) (n : ℕ) → ((x : ℕ) → x < n → f x ≡ g x) → sum f n ≡ sum g n
unfolding sum
sum_same f g zero h = refl
sum_same f g (suc n) h = grind (arith, sum_same f g n)

pub sum_add : (f g : ℕ → ℕ) (n : ℕ) → sum (λ x. f x + g x) n ≡ sum f n + sum g n
unfolding sum
sum_add f g zero = refl
sum_add f g (suc n) = omega (arith, sum_add f g n)

-- nothing is added from s up to n
pub sum_skip : (f : ℕ → ℕ) (s n : ℕ) → s ≤ n → ((x : ℕ) → s ≤ x → x < n → f x ≡ 0) → sum f n ≡ sum f s
unfolding sum
sum_skip f s zero l h = grind arith
sum_skip f s (suc n) l h =
    elim (cases_eq s (suc n)) [
      | inl e ↦ rw e
      | inr d ↦ omega (arith, sum_skip f s n (omega arith) (λ x i j. h x i (omega arith)), h n (omega arith) (omega arith))
    ]

-- nothing is added below n
pub sum_none : (f : ℕ → ℕ) (n : ℕ) → ((x : ℕ) → x < n → f x ≡ 0) → sum f n ≡ 0
unfolding sum
sum_none f n h = sum_skip f 0 n (omega arith) (λ x _. h x)

-- the numbers below m, and the n after them
pub sum_split : (f : ℕ → ℕ) (m n : ℕ) → sum f (m + n) ≡ sum f m + sum (λ x. f (m + x)) n
unfolding sum
sum_split f m zero = grind arith
sum_split f m (suc n) = rw add-suc (omega (arith, sum_split f m n))

-- one value changes
pub sum_flip : (f g : ℕ → ℕ) (n v : ℕ) → v < n → ((x : ℕ) → x < n → x ≢ v → f x ≡ g x) → sum f n + g v ≡ sum g n + f v
unfolding sum
sum_flip f g zero v k h = absurd (omega arith)
sum_flip f g (suc n) v k h =
    elim (cases_eq v n) [
      | inl e ↦ let same = sum_same f g n (λ x k. h x (omega arith) (omega arith)) in rw e (omega arith)
      | inr d ↦ omega (arith, sum_flip f g n v (omega arith) (λ x m. h x (omega arith)), h n (omega arith) (omega arith))
    ]

pub count_le : (p : ℕ → Bool) (n : ℕ) → count p n ≤ n
unfolding sum
count_le p zero = omega arith
count_le p (suc n) = grind (arith, nat_tests, count_le p n)

pub count_same : (p q : ℕ → Bool) (n : ℕ) → ((x : ℕ) → x < n → p x ≡ q x) → count p n ≡ count q n
count_same p q n h = sum_same _ _ n (λ x l. ap bit (h x l))

pub count_none : (p : ℕ → Bool) (n : ℕ) → ((x : ℕ) → x < n → p x ≡ false) → count p n ≡ 0
count_none p n h = sum_none _ n (λ x l. ap bit (h x l))

-- none passes from s up to n
pub count_skip : (p : ℕ → Bool) (s n : ℕ) → s ≤ n → ((x : ℕ) → s ≤ x → x < n → p x ≡ false) → count p n ≡ count p s
count_skip p s n l h = sum_skip _ s n l (λ x i j. ap bit (h x i j))

-- the next that passes from s on is v
pub count_next : (p : ℕ → Bool) (s v : ℕ) → s ≤ v → p v ≡ true → ((x : ℕ) → s ≤ x → x < v → p x ≡ false) → count p (v + 1) ≡ count p s + 1
unfolding sum
count_next p s v l t h = let r = count_skip p s v l h in ap (count p) (add-one v) ∙ grind (arith, nat_tests)

-- one more passes
pub count_more : (p q : ℕ → Bool) (v n : ℕ) → v < n → p v ≡ false → q v ≡ true → ((x : ℕ) → x < n → x ≢ v → p x ≡ q x) → count q n ≡ suc (count p n)
count_more p q v n l f t h =
    let flip = sum_flip (λ x. bit (p x)) (λ x. bit (q x)) n v l (λ x k d. ap bit (h x k d)) in
    grind (arith, nat_tests)
