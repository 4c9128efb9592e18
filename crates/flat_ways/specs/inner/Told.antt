-- Buffers that are filled cell by cell.
use Rattle.std.specs.Prelude.{ℕ, ◌≡◌, ◌<◌, ◌≤◌, List, length, drop, slice_index}
use Rattle.nav_types.specs.declared.cells.Cell.{Cell}
use Rattle.nav_types.specs.declared.cells.Size.{Size}
use Rattle.nav_types.specs.Places.{cell_of}

-- what is told of the first cells of the map, so many, stands in the buffer; what lies behind them is as before
pub record AreToldUpTo (Tells : Cell → ℕ → Type 0) (size : Size) (count : ℕ) (before now : List ℕ) : Type 0 where
  pub long : length now ≡ length before
  pub told : (place : ℕ) → place < count → Tells (cell_of size place) (slice_index now place)
  pub behind : (place : ℕ) → count ≤ place → drop place now ≡ drop place before
