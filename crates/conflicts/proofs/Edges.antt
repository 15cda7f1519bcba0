-- How the number of pairs of a graph changes, and how it goes with the degrees.
use Rattle.std.proofs.Common.{◌≡◌, ◌≢◌, ℕ, zero, suc, ◌<◌, Bool, true, false, not, ◌&&◌, ◌||◌, refl, ap, inl, inr, arith}
use Rattle.std.proofs.lemmas.Bool.Decides.{nat_tests}
use Rattle.std.proofs.lemmas.Bool.{cases_lt}
use Rattle.conflicts.specs.Counting.{sum, bit, count}
use Rattle.conflicts.specs.Graphs.{Graph, Handshake, edges_below, joins}
use Rattle.conflicts.proofs.Sums.{count_more, count_none, count_same, sum_add, sum_flip, sum_none, sum_same}

pub handshake : Handshake
unfolding sum
handshake g zero same none = refl
handshake g (suc n) same none =
    let more = sum_add (λ x. count (g x) n) (λ x. bit (g x n)) n in
    let turned = sum_same (λ x. bit (g x n)) (λ x. bit (g n x)) n (λ x _. ap bit (same x n)) in
    omega (arith, handshake g n same none, ap bit (none n))

pub edges_same : (f g : Graph) (n : ℕ) → ((x y : ℕ) → f x y ≡ g x y) → edges_below f n ≡ edges_below g n
edges_same f g n h = sum_same (λ x. count (f x) x) (λ x. count (g x) x) n (λ x _. count_same (f x) (g x) x (λ y _. h x y))

pub edges_none : (g : Graph) (n : ℕ) → ((x y : ℕ) → g x y ≡ false) → edges_below g n ≡ 0
edges_none g n h = sum_none _ n (λ x _. count_none (g x) x (λ y _. h x y))

-- a pair is written, or taken away, as its two halves
pub both_halves : (s t u : Bool) → ((s || t) || u) ≡ (s || (t || u))
both_halves s t u = grind (arith, nat_tests)

pub neither_half : (s t u : Bool) → ((s && not t) && not u) ≡ (s && not (t || u))
neither_half s t u = grind (arith, nat_tests)

-- ---- with one pair more, or one fewer, a graph is still symmetric and without loops

pub joined_symmetric : (f g : Graph) (a b : ℕ) → ((x y : ℕ) → f x y ≡ f y x) → ((x y : ℕ) → g x y ≡ (f x y || joins a b x y)) → (x y : ℕ) → g x y ≡ g y x
joined_symmetric f g a b same h x y = grind (arith, nat_tests, h x y, h y x, same x y)

pub joined_loopless : (f g : Graph) (a b : ℕ) → ((x : ℕ) → f x x ≡ false) → a ≢ b → ((x y : ℕ) → g x y ≡ (f x y || joins a b x y)) → (x : ℕ) → g x x ≡ false
joined_loopless f g a b none d h x = grind (arith, nat_tests)

pub parted_symmetric : (f g : Graph) (a b : ℕ) → ((x y : ℕ) → f x y ≡ f y x) → ((x y : ℕ) → g x y ≡ (f x y && not (joins a b x y))) → (x y : ℕ) → g x y ≡ g y x
parted_symmetric f g a b same h x y = grind (arith, nat_tests, h x y, h y x, same x y)

pub parted_loopless : (f g : Graph) (a b : ℕ) → ((x : ℕ) → f x x ≡ false) → ((x y : ℕ) → g x y ≡ (f x y && not (joins a b x y))) → (x : ℕ) → g x x ≡ false
parted_loopless f g a b none h x = grind (arith, nat_tests)

-- ---- how many pairs there are then

-- one pair more, of a number a and a smaller one b
edges_at : (f g : Graph) (a b n : ℕ) → a < n → b < a → f a b ≡ false → g a b ≡ true
    → ((x y : ℕ) → y < x → (x ≡ a → y ≢ b) → f x y ≡ g x y) → edges_below g n ≡ suc (edges_below f n)
edges_at f g a b n l m off on h =
    let flip = sum_flip (λ x. count (f x) x) (λ x. count (g x) x) n a l (λ x _ d. count_same (f x) (g x) x (λ y k. h x y k (λ i j. d i))) in
    omega (arith, count_more (f a) (g a) b a m off on (λ y k d. h a y k (λ i j. d j)))

-- one pair more
pub edges_more : (f g : Graph) (a b n : ℕ) → a < n → b < n → a ≢ b → ((x y : ℕ) → f x y ≡ f y x) → f a b ≡ false
    → ((x y : ℕ) → g x y ≡ (f x y || joins a b x y)) → edges_below g n ≡ suc (edges_below f n)
edges_more f g a b n la lb d same off h =
    elim (cases_lt a b) [
      | inl l ↦ edges_at f g b a n lb l (grind (arith, same a b)) (grind (arith, nat_tests)) (λ x y k ne. grind (arith, nat_tests, h x y))
      | inr l ↦ edges_at f g a b n la (omega arith) off (grind (arith, nat_tests)) (λ x y k ne. grind (arith, nat_tests, h x y))
    ]

-- one pair fewer
pub edges_fewer : (g f : Graph) (a b n : ℕ) → a < n → b < n → ((x y : ℕ) → g x y ≡ g y x) → ((x : ℕ) → g x x ≡ false) → g a b ≡ true
    → ((x y : ℕ) → f x y ≡ (g x y && not (joins a b x y))) → edges_below g n ≡ suc (edges_below f n)
edges_fewer g f a b n la lb same none on h =
    edges_more f g a b n la lb
    (λ e. grind (arith, none a))
    (parted_symmetric g f a b same h)
    (grind (arith, nat_tests))
    (λ x y. grind (arith, nat_tests, h x y, same x y, same a b))
