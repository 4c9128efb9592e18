-- The parts of a version of a map.
use Rattle.std.specs.Prelude.{ℕ, ◌≤◌, ◌<◌, List, Option, length}
use Rattle.nav_types.specs.declared.cells.Rect.{Rect}
use Rattle.nav_types.specs.Numbering.{Numbering}
use Rattle.class_planes.specs.Planes.{PlaneCells, ArePlanes}
use Rattle.obstruction_store.specs.Standing.{Standing, AllFit}
use Rattle.posts.specs.Maps.{Map}
use Rattle.grid_versions.specs.Passing.{passable_at}
use Rattle.grid_versions.specs.inner.Changing.{AreChanges}
use Rattle.grid_versions.specs.inner.Painting.{AreBaseChunks, ArePaintedChunks}
use Rattle.grid_versions.specs.inner.Reachers.{AreReachers}
use Rattle.grid_versions.specs.inner.Reaching.{CoverChanges}
use Rattle.grid_versions.specs.inner.Tables.{Tables}
use Rattle.grid_versions.specs.inner.Tallying.{AreTablesOf}

-- The standing obstructions fit the map, and the numbers of all cells, those under the base rectangles alone, the lists
-- of what reaches into each chunk, and the planes and the tables of all classes are theirs. The mask of the planes has
-- the bits of all 16 classes.
pub record AreParts (map : Map) (standing : Standing) (base : List Numbering) (reachers : List (List ℕ))
    (cells : List Numbering) (planes : List (Option PlaneCells)) (tables : List Tables) : Type 0 where
  pub fit : AllFit map.size standing
  pub base_are : AreBaseChunks map base
  pub reachers_are : AreReachers map standing reachers
  pub cells_are : ArePaintedChunks map standing cells
  pub planes_are : ArePlanes map.size (passable_at map standing) 65535 (length map.classes) planes
  pub tables_are : AreTablesOf (length map.classes) (passable_at map standing) map.size tables
  pub few : length tables ≤ 16

-- the planes of all classes and the numbers of all chunks under some earlier obstructions, with rectangles that cover
-- what has changed since, and with the bits, one number a chunk, that say where
pub record ArePlanesBefore (map : Map) (now : Standing) (planes : List (Option PlaneCells)) (cells : List Numbering)
    (rects : List Rect) (bits : List ℕ) : Type 0 where
  pub earlier : Standing
  pub planes_are : ArePlanes map.size (passable_at map earlier) 65535 (length map.classes) planes
  pub painted : ArePaintedChunks map earlier cells
  pub covered : CoverChanges map earlier now rects
  pub changes : (k : ℕ) → k < length map.classes
      → AreChanges (passable_at map earlier k) (passable_at map now k) map.size k bits
