-- Numbers for the cells of a map, by pages of 8 by 8 cells.
use Rattle.std.specs.Prelude.{ℕ, ◌≡◌, ◌≢◌, ◌+◌, ◌*◌, ◌/◌, ◌%◌, ◌<◌, ◌≤◌, List, length, slice_index}
use Rattle.nav_types.specs.declared.cells.Cell.{Cell}

-- the place of the cell's page: pages that lie 512 cells apart share theirs
unfoldable pub page_place : Cell → ℕ
page_place cell = cell.j / 8 % 64 * 64 + cell.i / 8 % 64

-- where the cell stands on its page
unfoldable pub spot_of : Cell → ℕ
spot_of cell = cell.j % 8 * 8 + cell.i % 8

-- where the cell stands, page by page
unfoldable pub slot_of : Cell → ℕ
slot_of cell = page_place cell * 64 + spot_of cell

-- the number at a spot of the page of a place
abbrev pub number_on_page : List ℕ → List ℕ → ℕ → ℕ → ℕ
number_on_page table numbers place spot = slice_index numbers (slice_index table place * 64 + spot)

-- the number of the cell
unfoldable pub cell_number : List ℕ → List ℕ → Cell → ℕ
cell_number table numbers cell = number_on_page table numbers (page_place cell) (spot_of cell)

-- Each place has a page, and no two share one, but for the first page, which is of zeros.
pub record ArePages (table numbers : List ℕ) : Type 0 where
  pub wide : 4096 ≤ length table
  pub whole : length numbers % 64 ≡ 0
  pub inside : (place : ℕ) → slice_index table place * 64 + 64 ≤ length numbers
  pub blank : (spot : ℕ) → spot < 64 → slice_index numbers spot ≡ 0
  pub own : (a b : ℕ) → slice_index table a ≡ slice_index table b → 0 < slice_index table a → a ≡ b

-- the number of the cell, and of those that share its slot, has been set
pub record IsSet (cell : Cell) (number : ℕ) (Old New : Cell → ℕ) : Type 0 where
  pub here : (other : Cell) → slot_of other ≡ slot_of cell → New other ≡ number
  pub apart : (other : Cell) → slot_of other ≢ slot_of cell → New other ≡ Old other
