-- What of a chunk's regions stays although cells of the chunk have changed.
use Rattle.std.specs.Prelude.{ℕ, Bool, ◌≡◌, ◌+◌, ◌%◌, ◌⊎◌, IsTrue}
use Rattle.nav_types.specs.declared.limits.TheConstants.{CHUNK_SIDE}
use Rattle.nav_types.specs.declared.cells.Cell.{Cell}
use Rattle.nav_types.specs.declared.cells.Chunk.{Chunk}
use Rattle.nav_types.specs.declared.cells.Rect.{Rect}
use Rattle.nav_types.specs.declared.cells.Size.{Size}
use Rattle.nav_types.specs.Cells.{IsInRect}
use Rattle.nav_types.specs.Rects.{IsPartOf, chunk_rect}
use Rattle.nav_types.specs.Regions.{passes_in, HasRegion}
use Rattle.region_edges.specs.declared.neighbours.ChunkSide.{ChunkSide}
use Rattle.region_edges.specs.declared.neighbours.ChunkSide.TheVariants.{East, North}
use Rattle.grid_versions.specs.declared.dirty_parts.DirtyPart.{DirtyPart}
use Rattle.grid_versions.specs.inner.ChunkLists.{chunk_numbered}

-- each cell of the rectangle that passes before still does
abbrev pub StillPass : (Cell → Bool) → (Cell → Bool) → Rect → Type 0
StillPass before now rect = (cell : Cell) → IsInRect rect cell → IsTrue (before cell) → IsTrue (now cell)

-- cells of the rectangle have only become passable, or only impassable
abbrev pub ChangesOneWay : (Cell → Bool) → (Cell → Bool) → Rect → Type 0
ChangesOneWay before now rect = StillPass before now rect ⊎ StillPass now before rect

-- of the chunk's cells of a kind those that pass before still do, and their regions have the numbers of before
pub record KeepRegions (before now : Cell → Bool) (chunk : Chunk) (Among : Cell → Type 0) : Type 0 where
  pub passes : (cell : Cell) → Among cell → IsTrue (passes_in before chunk cell) → IsTrue (passes_in now chunk cell)
  pub numbers : (cell : Cell) (number : ℕ) → Among cell → IsTrue (passes_in before chunk cell)
      → HasRegion before chunk cell number → HasRegion now chunk cell number

-- of the chunk's cells of a kind the same pass before and now, and their regions have the same numbers
abbrev pub SameRegions : (Cell → Bool) → (Cell → Bool) → Chunk → (Cell → Type 0) → Type 0
SameRegions before now chunk Among = KeepRegions before now chunk Among × KeepRegions now before chunk Among

-- outside of the part, all is the same in its chunk
pub record IsKeptPart (before now : Cell → Bool) (size : Size) (part : DirtyPart) : Type 0 where
  pub inside : IsPartOf (chunk_rect size (chunk_numbered size part.place)) part.rect
  pub same : SameRegions before now (chunk_numbered size part.place) (λ cell. IsInRect part.rect cell → ⊥)

-- the cell is of its chunk's last column, or of its last row
abbrev pub IsLastOn : ChunkSide → Cell → Type 0
IsLastOn East cell = cell.i % CHUNK_SIDE + 1 ≡ CHUNK_SIDE
IsLastOn North cell = cell.j % CHUNK_SIDE + 1 ≡ CHUNK_SIDE

-- the cell is of its chunk's first column, or of its first row
abbrev pub IsFirstOn : ChunkSide → Cell → Type 0
IsFirstOn East cell = cell.i % CHUNK_SIDE ≡ 0
IsFirstOn North cell = cell.j % CHUNK_SIDE ≡ 0
