-- A part of a row of a map as one number of 16 bits for each of its cells: bit k is set where the cell is impassable for class k.
use Rattle.std.specs.Prelude.{ℕ, Bool, ◌≡◌, ◌<◌, ◌+◌, List, length, slice_index, if◌then◌else◌}
use Rattle.std.specs.Int.{bit_at}
use Rattle.nav_types.specs.declared.cells.Cell.{Cell}
use Rattle.nav_types.specs.Cells.{cell_at}

-- 1 for an impassable cell, 0 for a passable one
abbrev pub bit_of : Bool → ℕ
bit_of passable = if passable then 0 else 1

-- the numbers are those of so many cells of row j, from place `from` on, in a map with so many classes
pub record AreRowBits (classes : ℕ) (passes : ℕ → Cell → Bool) (j from count : ℕ) (bits : List ℕ) : Type 0 where
  pub long : length bits ≡ count
  pub each : (class k : ℕ) → class < classes → k < count
      → bit_at (slice_index bits k) class ≡ bit_of (passes class (cell_at (from + k) j))
