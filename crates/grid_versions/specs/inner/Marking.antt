-- Marks of rectangles in a grid: a mark stands for the cells of its column in so many rows from its own on.
use Rattle.std.specs.Prelude.{ℕ, ◌≡◌, ◌+◌, ◌<◌, ◌≤◌, List, Contains, IsTrue}
use Rattle.nav_types.specs.declared.cells.Cell.{Cell}
use Rattle.nav_types.specs.declared.cells.Rect.{Rect}
use Rattle.nav_types.specs.declared.cells.Size.{Size}
use Rattle.nav_types.specs.Cells.{cell_at, IsInside, IsInRect}
use Rattle.nav_types.specs.Numbering.{rows}
use Rattle.lane_rows.specs.Rows.{has_class}
use Rattle.navcell_grid.specs.Grids.{GridCells, number_at}
use Rattle.grid_versions.specs.Passing.{is_listed}

-- a mark of class k that stands for `run` rows stands for the cell
pub record IsMarked (grid : GridCells) (run k : ℕ) (cell : Cell) : Type 0 where
  pub row : ℕ
  pub south : row ≤ cell.j
  pub north : cell.j < row + run
  pub set : IsTrue (has_class k (number_at grid (cell_at cell.i row)))

-- the rectangle's cells are marked for the classes of its mask
abbrev pub IsRectMarked : GridCells → ℕ → Rect → ℕ → Type 0
IsRectMarked grid run rect mask = (k : ℕ) (cell : Cell) → IsTrue (has_class k mask) → IsInRect rect cell
    → IsMarked grid run k cell

-- marks stand for cells alone that the rectangles cover
abbrev pub AreMarksWithin : List (Rect × ℕ) → ℕ → GridCells → Type 0
AreMarksWithin base run grid = (k : ℕ) (cell : Cell) → IsInside grid.size cell → IsMarked grid run k cell
    → IsTrue (is_listed base k cell)

-- the marks of the rectangles that have at least `run` rows, each of which stands for so many
pub record AreMarks (base : List (Rect × ℕ)) (size : Size) (run : ℕ) (grid : GridCells) : Type 0 where
  pub extent : grid.size ≡ size
  pub within : AreMarksWithin base run grid
  pub all : (rect : Rect) (mask : ℕ) → Contains base (rect, mask) → run ≤ rows rect → IsRectMarked grid run rect mask
