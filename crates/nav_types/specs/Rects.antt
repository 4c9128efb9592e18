-- Rectangles of navcells: of a cell, of a map, of a chunk, and a part of another.
use Rattle.std.specs.Prelude.{◌≤◌, ◌+◌, ◌*◌, ◌-◌, min}
use Rattle.nav_types.specs.declared.limits.TheConstants.{CHUNK_SIDE}
use Rattle.nav_types.specs.declared.cells.Cell.{Cell}
use Rattle.nav_types.specs.declared.cells.Chunk.{Chunk}
use Rattle.nav_types.specs.declared.cells.Rect.{Rect}
use Rattle.nav_types.specs.declared.cells.Size.{Size}
use Rattle.nav_types.specs.Cells.{IsInRect}

-- the rectangle of one cell
abbrev pub cell_rect : Cell → Rect
cell_rect cell = record { i0 = cell.i; j0 = cell.j; i1 = cell.i; j1 = cell.j }

-- all cells of a map of this size
abbrev pub map_rect : Size → Rect
map_rect size = record { i0 = 0; j0 = 0; i1 = size.w - 1; j1 = size.h - 1 }

-- the chunk's cells in a map of this size, where it has one: fewer than elsewhere at the map's east and north side
abbrev pub chunk_rect : Size → Chunk → Rect
chunk_rect size chunk = record {
  i0 = CHUNK_SIDE * chunk.ci;
  j0 = CHUNK_SIDE * chunk.cj;
  i1 = min (CHUNK_SIDE * chunk.ci + (CHUNK_SIDE - 1)) (size.w - 1);
  j1 = min (CHUNK_SIDE * chunk.cj + (CHUNK_SIDE - 1)) (size.h - 1);
}

-- the rectangle has a cell, and all its cells lie in the other rectangle
pub record IsPartOf (whole part : Rect) : Type 0 where
  pub first : IsInRect whole (record { j = part.j0; i = part.i0 })
  pub last : IsInRect whole (record { j = part.j1; i = part.i1 })
  pub columns : part.i0 ≤ part.i1
  pub rows : part.j0 ≤ part.j1
