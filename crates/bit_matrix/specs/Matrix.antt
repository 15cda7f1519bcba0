-- 512 rows of 512 bits, in 4,096 words of 64 bits.
use Rattle.std.specs.Prelude.{◌≡◌, ℕ, ◌+◌, ◌*◌, ◌/◌, ◌%◌, ◌^◌, ◌<◌, Bool, true, false, if◌then◌else◌, not, ◌&&◌, ◌||◌, List, [], length, take, drop, sum_by, ◌==◌, nat_le, nat_lt, slice_index}
use Rattle.conflicts.specs.Counting.{count}
use Rattle.conflicts.specs.Graphs.{Graph, joins}

-- bit k of a word, the lowest first
unfoldable pub bit_of : ℕ → ℕ → Bool
bit_of word k = word / 2 ^ k % 2 == 1

-- whether there are words enough for a matrix
abbrev pub suffices : List ℕ → Bool
suffices words = nat_le 4096 (length words)

-- the bit in row x and column y: a row has 8 words, the lowest columns first
unfoldable pub marked : List ℕ → Graph
unfolding bit_of
marked words x y = ((nat_lt x 512 && nat_lt y 512) && suffices words) && bit_of (slice_index words (x * 8 + y / 64)) (y % 64)

-- the words of row x, none where there are too few for a matrix
abbrev pub row_of : List ℕ → ℕ → List ℕ
row_of words x = if suffices words then take 8 (drop (x * 8) words) else []

-- how many bits are set in the words of a row
abbrev pub weight_of : List ℕ → ℕ
weight_of row = sum_by (λ word. count (bit_of word) 64) row

-- as many pairs as 512 numbers have, or none
abbrev pub capacity_of : List ℕ → ℕ
capacity_of words = if suffices words then 130816 else 0

-- the graph in which an entry stands, or stands no longer: one half of a pair
abbrev pub with_entry : Graph → ℕ → ℕ → Bool → Graph
with_entry g a b stands x y = if x == a && y == b then stands else g x y

-- the same of a pair
abbrev pub with_pair : Graph → ℕ → ℕ → Bool → Graph
with_pair g a b true x y = g x y || joins a b x y
with_pair g a b false x y = g x y && not (joins a b x y)

-- Bits of the matrix have changed, and nothing else.
pub record Framed (words words' : List ℕ) : Type 0 where
  pub as_long : length words' ≡ length words
  pub beyond : drop 4096 words' ≡ drop 4096 words

-- The matrix has no bit, and nothing else has changed: too few words are left as they are.
pub record Cleared (words words' : List ℕ) : Type 0 where
  pub zero_bits : suffices words ≡ true → (k : ℕ) → k < 4096 → slice_index words' k ≡ 0
  pub untouched : suffices words ≡ false → words' ≡ words
  pub framed : Framed words words'
