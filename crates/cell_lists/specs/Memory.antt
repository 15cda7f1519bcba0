-- The memory of the lists: cells, and the chains over them.
use Rattle.std.specs.Prelude.{◌≡◌, ℕ, zero, suc, ◌+◌, ◌/◌, ◌^◌, ◌<◌, min, List, [], ◌∷◌, length, slice_index_or}
use Rattle.cell_lists.specs.declared.cell.Cell.{Cell}
use Rattle.cell_lists.specs.declared.chains.Chain.{Chain}
use Rattle.cell_lists.specs.declared.chains.Memory.{Memory}
use Rattle.cell_lists.specs.Chains.{View, along}

-- a cell that was never used
abbrev pub blank : Cell
blank = record { neighbour = 0; next = 0 }

-- a chain without cells
abbrev pub no_cells : Chain
no_cells = record { head = 0; len = 0 }

-- what cells and chains hold
abbrev pub view_of : List Cell → List Chain → View
view_of cs hs = record {
  neighbour = λ i. (slice_index_or cs i blank).neighbour;
  next = λ i. (slice_index_or cs i blank).next;
  head = λ x. (slice_index_or hs x no_cells).head;
  count = λ x. (slice_index_or hs x no_cells).len;
}

abbrev pub view : Memory → View
view m = view_of m.cells.now m.chains

-- the chain x has a top cell, which is one of the cells
abbrev pub HasTop : Memory → ℕ → Type 0
HasTop m x = (0 < (view m).count x) × ((view m).head x < length m.cells.now)

-- the chain x can be a cell longer
abbrev pub HasRoom : Memory → ℕ → Type 0
HasRoom m x = (view m).count x + 1 < 2 ^ 32

-- n cells from the cell i on, each with the number that it names
unfoldable pub stops : List Cell → ℕ → ℕ → List (ℕ × ℕ)
stops cs i zero = []
stops cs i (suc n) = (i, (slice_index_or cs i blank).neighbour) ∷ stops cs (slice_index_or cs i blank).next n

-- those are among the cells
abbrev pub Stays : List Cell → ℕ → ℕ → Type 0
Stays cs i n = (j : ℕ) → j < n → along (λ k. (slice_index_or cs k blank).next) i j < length cs

-- the chain of x, from its top
abbrev pub chain : Memory → ℕ → List (ℕ × ℕ)
chain m x = stops m.cells.now ((view m).head x) ((view m).count x)

-- n stands on the cells of m
pub record Kept (m n : Memory) : Type 0 where
  pub same_cells : n.cells.ghost_name ≡ m.cells.ghost_name
  pub same_length : length n.cells.now ≡ length m.cells.now

-- a pair takes two cells, and 512 numbers have 130,816 pairs
abbrev pub capacity_of : ℕ → ℕ
capacity_of n = min (n / 2) 130816
