-- Which bits a raster sets. Bit k of a cell's number is std's `bit_at`, 0 or 1.
use Rattle.std.specs.Prelude.{ℕ, ◌≡◌, ◌≤◌, ℤ, unsigned_abs, Bool, ◌&&◌, false, IsTrue, List, Some}
use Rattle.std.specs.Option.{option_map_or}
use Rattle.nav_types.specs.declared.cells.Cell.{Cell}
use Rattle.lane_rows.specs.Rows.{has_class}
use Rattle.obstruction_shapes.specs.declared.shapes.Obstruction.{Obstruction}
use Rattle.obstruction_shapes.specs.Blocking.{blocked}
use Rattle.class_config.specs.declared.table.PassabilityClass.{PassabilityClass}
use Rattle.class_config.specs.Classes.{clearance_at}

-- the obstruction blocks the cell for the class k: its mask has the bit of the class, the table has the class, and the
-- shape blocks the cell with that class's clearance
abbrev pub blocks_class : Obstruction → List PassabilityClass → ℕ → Cell → Bool
blocks_class obstruction classes k cell = has_class k obstruction.mask
    && option_map_or (λ clearance. blocked obstruction.shape clearance cell) (clearance_at classes k) false

-- The greatest clearance of the classes of the mask that the table has. Clearances are never negative, so that
-- magnitudes order them.
pub record IsGreatestClearance (mask : ℕ) (classes : List PassabilityClass) (greatest : ℤ) : Type 0 where
  pub class : ℕ
  pub in_mask : IsTrue (has_class class mask)
  pub of_class : clearance_at classes class ≡ Some greatest
  pub most : (k : ℕ) (clearance : ℤ) → IsTrue (has_class k mask) → clearance_at classes k ≡ Some clearance
      → unsigned_abs clearance ≤ unsigned_abs greatest
