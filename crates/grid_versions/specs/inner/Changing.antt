-- What changes between two maps of one size, and where they agree.
use Rattle.std.specs.Prelude.{ℕ, Bool, ◌≡◌, List, IsFalse, map}
use Rattle.nav_types.specs.declared.cells.Cell.{Cell}
use Rattle.nav_types.specs.declared.cells.Chunk.{Chunk}
use Rattle.nav_types.specs.declared.cells.Size.{Size}
use Rattle.nav_types.specs.Cells.{chunk_of}
use Rattle.lane_rows.specs.Rows.{has_class}
use Rattle.region_edges.specs.Edges.{PassesInside}
use Rattle.grid_versions.specs.inner.Reaching.{Reached, is_in_some}
use Rattle.grid_versions.specs.inner.Tallying.{AreMarks}

-- each cell of the chunk is passable in both maps or in neither
abbrev pub AgreeInChunk : (Cell → Bool) → (Cell → Bool) → Chunk → Type 0
AgreeInChunk before now chunk = (cell : Cell) → chunk_of cell ≡ chunk → before cell ≡ now cell

-- the bits of the class, one a chunk, are set exactly where the chunk differs between the two maps
pub record AreChanges (before now : Cell → Bool) (size : Size) (class : ℕ) (bits : List ℕ) : Type 0 where
  pub before_inside : PassesInside before size
  pub now_inside : PassesInside now size
  pub marks : AreMarks before now size (map (has_class class) bits)

-- of a map of this size the rectangles hold each cell that is passable in one of the two maps and not in the other
pub record CoverPassable (before now : Cell → Bool) (size : Size) (reached : Reached) : Type 0 where
  pub sized : reached.size ≡ size
  pub same : (cell : Cell) → IsFalse (is_in_some reached.rects cell) → before cell ≡ now cell
