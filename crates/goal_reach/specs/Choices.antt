-- The cell of least rank in a set of cells.
use Rattle.std.specs.Prelude.{ℕ, ◌≡◌, ◌≤◌}
use Rattle.nav_types.specs.declared.cells.Cell.{Cell}
use Rattle.nav_types.specs.Cells.{IsNotAfter}

-- the cell of the set that has the least rank, the first in cell order among equals
pub record IsLeastBy (rank : Cell → ℕ) (Within : Cell → Type 0) (cell : Cell) : Type 0 where
  pub within : Within cell
  pub least : (other : Cell) → Within other → rank cell ≤ rank other
  pub first : (other : Cell) → Within other → rank other ≡ rank cell → IsNotAfter cell other
