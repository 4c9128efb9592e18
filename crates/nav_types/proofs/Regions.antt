-- Where a cell that passes in a chunk lies, and that a cell has one region number and one area number.
use Rattle.std.proofs.Common.{ℕ, ◌≡◌, ◌/◌, ◌==◌, ◌&&◌, Bool, IsTrue}
use Rattle.std.proofs.lemmas.Bool.{and_parts, eqb-true}
use Rattle.nav_types.specs.declared.cells.Cell.{Cell}
use Rattle.nav_types.specs.declared.cells.Chunk.{Chunk}
use Rattle.nav_types.specs.Cells.{chunk_of, IsBefore}
use Rattle.nav_types.specs.Walks.{Joined}
use Rattle.nav_types.specs.Regions.{passes_in, InOneRegion, IsAreaBefore, HasRegion, HasArea}
use Rattle.nav_types.proofs.CellOrder.{same_chunk, IsBefore-asym, IsBefore-cases, IsAreaBefore-asym, IsAreaBefore-cases}
use Rattle.nav_types.proofs.FirstCells.{HasNumber-unique}
use Rattle.nav_types.proofs.Walking.{Joined-sym, Joined-trans, JoinedStraight-sym, JoinedStraight-trans}

-- where a cell lies that passes in a chunk
pub record LiesIn (passes : Cell → Bool) (chunk : Chunk) (cell : Cell) : Type 0 where
  pub column : cell.i / 96 ≡ chunk.ci
  pub row : cell.j / 96 ≡ chunk.cj
  pub in_chunk : chunk_of cell ≡ chunk
  pub passable : IsTrue (passes cell)

pub lies_in : (passes : Cell → Bool) (chunk : Chunk) (cell : Cell) → IsTrue (passes_in passes chunk cell) → LiesIn passes chunk cell
lies_in passes chunk cell all =
    let parts = and_parts ((cell.i / 96 == chunk.ci) && (cell.j / 96 == chunk.cj)) (passes cell) all in
    let place = and_parts (cell.i / 96 == chunk.ci) (cell.j / 96 == chunk.cj) parts.0 in
    let column = eqb-true (cell.i / 96) chunk.ci place.0 in
    let row = eqb-true (cell.j / 96) chunk.cj place.1 in
    record { column = column; row = row; in_chunk = same_chunk (chunk_of cell) chunk column row; passable = parts.1 }

-- a cell has one region number at most
pub one_region : (passes : Cell → Bool) (chunk : Chunk) (cell : Cell) (m n : ℕ) → HasRegion passes chunk cell m → HasRegion passes chunk cell n → m ≡ n
one_region passes chunk =
    let P = passes_in passes chunk in
    HasNumber-unique P (InOneRegion passes chunk) IsBefore (JoinedStraight-sym P) (JoinedStraight-trans P) IsBefore-asym IsBefore-cases

-- a cell has one area number at most
pub one_area : (passes : Cell → Bool) (cell : Cell) (m n : ℕ) → HasArea passes cell m → HasArea passes cell n → m ≡ n
one_area passes =
    HasNumber-unique passes (Joined passes) IsAreaBefore (Joined-sym passes) (Joined-trans passes) IsAreaBefore-asym IsAreaBefore-cases
