-- Cells that keep their numbers from one list of chunks to another.
use Rattle.std.specs.Prelude.{ℕ, ◌≡◌, List, slice_get, Some}
use Rattle.nav_types.specs.declared.cells.Cell.{Cell}
use Rattle.nav_types.specs.declared.cells.Size.{Size}
use Rattle.nav_types.specs.Numbering.{Numbering, number_of}
use Rattle.nav_types.specs.Rects.{chunk_rect}
use Rattle.grid_versions.specs.Chunks.{chunk_count}
use Rattle.grid_versions.specs.inner.ChunkLists.{AreOfChunks}

-- the numbers of each chunk are those of its cells
abbrev pub AreChunksOf : Size → List Numbering → Type 0
AreChunksOf size all = AreOfChunks size (chunk_count size) (λ chunk cells. cells.rect ≡ chunk_rect size chunk) all

-- the cell has one number in both lists' chunks at the place
abbrev pub IsSameAt : List Numbering → List Numbering → ℕ → Cell → Type 0
IsSameAt before now place cell = (a b : Numbering) → slice_get before place ≡ Some a → slice_get now place ≡ Some b
    → number_of a cell ≡ number_of b cell
