-- The border of two neighbouring chunks: the cells along it, and the regions that meet there.
use Rattle.std.specs.Prelude.{ℕ, ◌≡◌, ◌≢◌, ◌+◌, ◌<◌}
use Rattle.nav_types.specs.declared.cells.Cell.{Cell}
use Rattle.nav_types.specs.declared.cells.Rect.{Rect}
use Rattle.nav_types.specs.Cells.{cell_at}
use Rattle.nav_types.specs.Numbering.{number_of, columns, rows}
use Rattle.chunk_regions.specs.Labelling.{Labelling}
use Rattle.region_edges.specs.declared.neighbours.ChunkSide.{ChunkSide}
use Rattle.region_edges.specs.declared.neighbours.ChunkSide.TheVariants.{East, North}

-- how many cells the rectangle has along that side
abbrev pub border_length : ChunkSide → Rect → ℕ
border_length East rect = rows rect
border_length North rect = columns rect

-- the cell at a place along the rectangle's own last column or row on that side, counted from 0 in the south or west
abbrev pub near_cell : ChunkSide → Rect → ℕ → Cell
near_cell East rect at = cell_at rect.i1 (rect.j0 + at)
near_cell North rect at = cell_at (rect.i0 + at) rect.j1

-- the cell at a place along the first column or row of the rectangle that lies on that side
abbrev pub far_cell : ChunkSide → Rect → ℕ → Cell
far_cell East rect at = cell_at rect.i0 (rect.j0 + at)
far_cell North rect at = cell_at (rect.i0 + at) rect.j0

-- the numbers of the two cells that lie side by side at a place along the border
abbrev pub numbers_at : ChunkSide → Labelling → Labelling → ℕ → ℕ × ℕ
numbers_at side here there at = (
  number_of here.cells (near_cell side here.cells.rect at),
  number_of there.cells (far_cell side there.cells.rect at),
)

-- the pair of regions meets at one of the first places along the border
pub record Meets (side : ChunkSide) (here there : Labelling) (places : ℕ) (pair : ℕ × ℕ) : Type 0 where
  pub at : ℕ
  pub within : at < places
  pub is : numbers_at side here there at ≡ pair
  pub near_passable : pair.0 ≢ 0
  pub far_passable : pair.1 ≢ 0
