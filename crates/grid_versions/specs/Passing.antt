-- Which cells of a map are passable, by its base rectangles and the standing obstructions.
use Rattle.std.specs.Prelude.{ℕ, ◌≡◌, ◌<◌, Bool, ◌&&◌, ◌||◌, not, nat_le, nat_lt, List, length, Some, Contains, IsFalse}
use Rattle.std.specs.List.{list_any}
use Rattle.std.specs.FinMap as fin_map
use Rattle.nav_types.specs.declared.cells.Cell.{Cell}
use Rattle.nav_types.specs.declared.cells.Rect.{Rect}
use Rattle.nav_types.specs.declared.cells.Size.{Size}
use Rattle.nav_types.specs.Cells.{IsInside, IsInRect}
use Rattle.lane_rows.specs.Rows.{has_class}
use Rattle.obstruction_shapes.specs.declared.shapes.Obstruction.{Obstruction}
use Rattle.clearance_raster.specs.Rasters.{blocks_class}
use Rattle.obstruction_store.specs.Standing.{Standing}
use Rattle.posts.specs.Maps.{Map}

-- the cell lies in a map of this size
abbrev pub is_inside : Size → Cell → Bool
is_inside size cell = nat_lt cell.i size.w && nat_lt cell.j size.h

-- the cell lies in the rectangle, both ends inclusive
abbrev pub is_in_rect : Rect → Cell → Bool
is_in_rect rect cell = nat_le rect.i0 cell.i && nat_le cell.i rect.i1 && nat_le rect.j0 cell.j && nat_le cell.j rect.j1

-- bit k is in the mask of one of the rectangles that holds the cell
abbrev pub is_listed : List (Rect × ℕ) → ℕ → Cell → Bool
is_listed entries k cell = list_any (λ (entry : Rect × ℕ). has_class k entry.1 && is_in_rect entry.0 cell) entries

-- bit k is in the mask of a base rectangle that holds the cell
abbrev pub has_base : Map → ℕ → Cell → Bool
has_base map k cell = is_listed map.base k cell

-- a standing obstruction blocks the cell for class k
abbrev pub is_blocked : Map → Standing → ℕ → Cell → Bool
is_blocked map standing k cell =
    list_any (λ (entry : ℕ × Obstruction). blocks_class entry.1 map.classes k cell) (fin_map.entries standing)

-- The cell is passable for class k: the map has the class and the cell, the base leaves the cell free for the class, and
-- no standing obstruction blocks it.
unfoldable pub passable_at : Map → Standing → ℕ → Cell → Bool
passable_at map standing k cell = nat_lt k (length map.classes) && is_inside map.size cell
    && not (has_base map k cell || is_blocked map standing k cell)

-- the same, said of each base rectangle and of each standing obstruction
pub record IsPassable (map : Map) (standing : Standing) (k : ℕ) (cell : Cell) : Type 0 where
  pub class : k < length map.classes
  pub inside : IsInside map.size cell
  pub base : (rect : Rect) (mask : ℕ) → Contains map.base (rect, mask) → IsInRect rect cell → IsFalse (has_class k mask)
  pub clear : (id : ℕ) (obstruction : Obstruction) → fin_map.get standing id ≡ Some obstruction
      → IsFalse (blocks_class obstruction map.classes k cell)
