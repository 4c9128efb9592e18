-- The area of a start cell.
use Rattle.std.specs.Prelude.{ℕ, Bool, IsTrue}
use Rattle.nav_types.specs.declared.cells.Cell.{Cell}

-- the start is passable, and the number is that of its area
pub record IsAreaOf (passes : Cell → Bool) (HasNumber : Cell → ℕ → Type 0) (start : Cell) (number : ℕ) : Type 0 where
  pub passable : IsTrue (passes start)
  pub numbered : HasNumber start number
