-- Graphs on the numbers below 512: sets of unordered pairs.
use Rattle.std.specs.Prelude.{◌≡◌, ℕ, ◌*◌, ◌<◌, ◌≤◌, Bool, true, false, ◌&&◌, ◌||◌, Some, None, Option, ◌==◌}
use Rattle.conflicts.specs.Counting.{sum, count}

-- by the test of whether two numbers are neighbours
abbrev pub Graph : Type 0
Graph = ℕ → ℕ → Bool

-- a pair stands both ways
abbrev pub Symmetric : Graph → Type 0
Symmetric g = (x y : ℕ) → g x y ≡ g y x

-- no number is its own neighbour
abbrev pub Loopless : Graph → Type 0
Loopless g = (x : ℕ) → g x x ≡ false

-- no number above 511 has a neighbour
abbrev pub Bounded : Graph → Type 0
Bounded g = (x y : ℕ) → 511 < x → g x y ≡ false

-- x and y are a and b, either way round
abbrev pub joins : ℕ → ℕ → Graph
joins a b x y = (x == a && y == b) || (x == b && y == a)

-- x or y is a
abbrev pub touches : ℕ → Graph
touches a x y = x == a || y == a

-- how many neighbours x has
abbrev pub degree : Graph → ℕ → ℕ
degree g x = count (g x) 512

-- how many pairs of numbers below n there are: each is counted at its larger number
abbrev pub edges_below : Graph → ℕ → ℕ
edges_below g n = sum (λ x. count (g x) x) n

abbrev pub edge_count : Graph → ℕ
edge_count g = edges_below g 512

-- the smallest number of at least s that passes the test, if any does
abbrev pub SmallestFrom : (ℕ → Bool) → ℕ → Option ℕ → Type 0
SmallestFrom p s (Some q) = (s ≤ q) × (p q ≡ true) × ((k : ℕ) → s ≤ k → k < q → p k ≡ false)
SmallestFrom p s None = (k : ℕ) → s ≤ k → p k ≡ false

-- the number found, if any, is below n
abbrev pub Below : ℕ → Option ℕ → Type 0
Below n (Some q) = q < n
Below n None = Unit {0}

-- The degrees of all numbers add up to twice the number of pairs.
abbrev pub Handshake : Type 0
Handshake = (g : Graph) (n : ℕ) → ((x y : ℕ) → g x y ≡ g y x) → ((x : ℕ) → g x x ≡ false)
    → sum (λ x. count (g x) n) n ≡ 2 * edges_below g n
