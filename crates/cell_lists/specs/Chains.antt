-- Chains of cells: what they name, when a pair stands, and how a chain changes.
use Rattle.std.specs.Prelude.{◌≡◌, ℕ, zero, suc, ◌+◌, ◌-◌, ◌<◌, Bool, true, false, if◌then◌else◌, ◌&&◌, ◌||◌, Some, None, Option, ◌==◌, nat_eq, nat_lt}
use Rattle.conflicts.specs.Graphs.{Graph, degree}

-- a memory: the number that a cell names, and the cell after it; the top cell of a chain, and how many cells it has; chain 512 is the free chain
pub record View : Type 0 where
  pub neighbour : ℕ → ℕ
  pub next : ℕ → ℕ
  pub head : ℕ → ℕ
  pub count : ℕ → ℕ

-- the cell that is j links after the cell i
unfoldable pub along : (ℕ → ℕ) → ℕ → ℕ → ℕ
along next i zero = i
along next i (suc j) = next (along next i j)

-- the cell at the place j of the chain x, the top cell at the place 0
abbrev pub place : View → ℕ → ℕ → ℕ
place v x j = along v.next (v.head x) j

-- the number that this cell names
abbrev pub named : View → ℕ → ℕ → ℕ
named v x j = v.neighbour (place v x j)

-- some number below n passes the test
unfoldable pub some_below : (ℕ → Bool) → ℕ → Bool
some_below p zero = false
some_below p (suc n) = p n || some_below p n

-- a pair stands: a cell of the chain x names y
unfoldable pub holds : View → Graph
holds v x y = (nat_lt x 512 && nat_lt y 512) && some_below (λ j. nat_eq (named v x j) y) (v.count x)

-- every cell of a chain is one of the first m
abbrev pub Ranged : View → ℕ → Type 0
Ranged v m = (x j : ℕ) → j < v.count x → place v x j < m

-- no cell stands twice, in one chain or in two
abbrev pub Disjoint : View → Type 0
Disjoint v = (x j y k : ℕ) → j < v.count x → k < v.count y → place v x j ≡ place v y k → (x ≡ y) × (j ≡ k)

-- a number's chain names numbers below 512
abbrev pub Inside : View → Type 0
Inside v = (x j : ℕ) → x < 512 → j < v.count x → named v x j < 512

-- a number's chain names each neighbour once
abbrev pub Single : View → Type 0
Single v = (x j k : ℕ) → x < 512 → j < v.count x → k < v.count x → named v x j ≡ named v x k → j ≡ k

-- a number's chain is as long as the number has neighbours
abbrev pub Degrees : View → Type 0
Degrees v = (x : ℕ) → x < 512 → v.count x ≡ degree (holds v) x

-- the first m cells are free, one after the other, and no other chain has a cell
pub record Unused (v : View) (m : ℕ) : Type 0 where
  pub links : (i : ℕ) → i < m → v.next i ≡ i + 1
  pub top : v.head 512 ≡ 0
  pub free : v.count 512 ≡ m
  pub rest : (x : ℕ) → (x ≡ 512 → ⊥) → v.count x ≡ 0

-- The top cell of the chain f has become the top cell of the chain t, and names b.
pub record Moved (v w : View) (f t b : ℕ) : Type 0 where
  pub neighbours : (i : ℕ) → w.neighbour i ≡ (if i == v.head f then b else v.neighbour i)
  pub links : (i : ℕ) → w.next i ≡ (if i == v.head f then v.head t else v.next i)
  pub heads : (x : ℕ) → w.head x ≡ (if x == t then v.head f else if x == f then v.next (v.head f) else v.head x)
  pub counts : (x : ℕ) → w.count x ≡ (if x == t then v.count t + 1 else if x == f then v.count f - 1 else v.count x)

-- the memory in which the cell c names n
abbrev pub renamed : View → ℕ → ℕ → View
renamed v c n = record { neighbour = λ i. if i == c then n else v.neighbour i; next = v.next; head = v.head; count = v.count }

-- The cell c of the chain a names what the top cell named, and the top cell is free.
abbrev pub Cut : View → View → ℕ → ℕ → Type 0
Cut v w a c = Moved (renamed v c (v.neighbour (v.head a))) w a 512 0

-- the cell c stands in the chain a and names b
pub record Stands (v : View) (a b c : ℕ) : Type 0 where
  pub k : ℕ
  pub within : k < v.count a
  pub here : place v a k ≡ c
  pub names : named v a k ≡ b

-- the pair of a and b stands, at that cell, or it does not
abbrev pub Located : View → ℕ → ℕ → Option ℕ → Type 0
Located v a b (Some c) = (holds v a b ≡ true) × Stands v a b c
Located v a b None = holds v a b ≡ false
