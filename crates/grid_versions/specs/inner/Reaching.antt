-- Rectangles that cover what edits change.
use Rattle.std.specs.Prelude.{ℕ, ◌≡◌, ◌⊎◌, Bool, List, Option, Some, Contains, IfSome, IsTrue, IsFalse, IsSomeAnd}
use Rattle.std.specs.List.{list_any}
use Rattle.std.specs.FinMap as fin_map
use Rattle.nav_types.specs.declared.cells.Cell.{Cell}
use Rattle.nav_types.specs.declared.cells.Rect.{Rect}
use Rattle.nav_types.specs.declared.cells.Size.{Size}
use Rattle.nav_types.specs.Cells.{IsInside, IsInRect}
use Rattle.nav_types.specs.Numbering.{Numbering, number_of}
use Rattle.nav_types.specs.Rects.{IsPartOf}
use Rattle.lane_rows.specs.Rows.{has_class}
use Rattle.obstruction_shapes.specs.declared.shapes.Obstruction.{Obstruction}
use Rattle.clearance_raster.specs.Rasters.{blocks_class}
use Rattle.obstruction_store.specs.Standing.{Standing}
use Rattle.posts.specs.Maps.{Map}
use Rattle.grid_versions.specs.Passing.{is_in_rect, is_blocked}
use Rattle.grid_versions.specs.inner.Painting.{is_covered, ArePaintedChunks}

-- one of the rectangles holds the cell
abbrev pub is_in_some : List Rect → Cell → Bool
is_in_some rects cell = list_any (λ (rect : Rect). is_in_rect rect cell) rects

-- the rectangle holds each cell of the map that the obstruction of the number blocks for some class
abbrev pub HoldsReach : Map → Standing → ℕ → Option Rect → Type 0
HoldsReach map standing id reach = (obstruction : Obstruction) → fin_map.get standing id ≡ Some obstruction
    → (k : ℕ) (cell : Cell) → IsInside map.size cell → IsTrue (blocks_class obstruction map.classes k cell)
    → IsSomeAnd reach (λ (rect : Rect). IsInRect rect cell)

-- The rectangles cover what changes: a cell of the map that none of them holds is blocked for each class before exactly
-- where it is blocked after.
pub record CoverChanges (map : Map) (before now : Standing) (rects : List Rect) : Type 0 where
  pub same : (k : ℕ) (cell : Cell) → IsInside map.size cell → IsFalse (is_in_some rects cell)
      → is_blocked map before k cell ≡ is_blocked map now k cell

-- the rectangles hold each cell of the map that the obstruction of the number blocks for some class
abbrev pub LiesWithin : Map → Standing → ℕ → List Rect → Type 0
LiesWithin map standing id rects = (obstruction : Obstruction) → fin_map.get standing id ≡ Some obstruction
    → (k : ℕ) (cell : Cell) → IsInside map.size cell → IsTrue (blocks_class obstruction map.classes k cell)
    → IsTrue (is_in_some rects cell)

-- Under each number stands what stood before, or the list has the number and the rectangles hold what its obstruction
-- blocks.
pub record NameChanges (map : Map) (before now : Standing) (rects : List Rect) (ids : List ℕ) : Type 0 where
  pub each : (id : ℕ)
      → (fin_map.get now id ≡ fin_map.get before id) ⊎ (Contains ids id × LiesWithin map now id rects)

-- under each number stands what stood before, or the list has the number
abbrev pub AreNamed : Standing → Standing → List ℕ → Type 0
AreNamed before now ids = (id : ℕ) → (fin_map.get now id ≡ fin_map.get before id) ⊎ Contains ids id

-- what stands in the one stands in the other
abbrev pub StillStands : Standing → Standing → Type 0
StillStands one other = (id : ℕ) (obstruction : Obstruction) → fin_map.get one id ≡ Some obstruction
    → fin_map.get other id ≡ Some obstruction

-- the bits of the rectangle's cells say what was covered under some earlier obstructions; the list has the numbers of what
-- has changed since; where `adds` holds, nothing was but added, and where `removes` does, nothing was but removed
pub record IsCoveredBefore (map : Map) (now : Standing) (rect : Rect) (old : Numbering) (ids : List ℕ)
    (adds removes : Bool) : Type 0 where
  pub earlier : Standing
  pub bits : (k : ℕ) (cell : Cell) → IsInRect rect cell
      → has_class k (number_of old cell) ≡ is_covered map earlier k cell
  pub named : AreNamed earlier now ids
  pub only_adds : IsTrue adds → StillStands earlier now
  pub only_removes : IsTrue removes → StillStands now earlier

-- the numbers of all chunks under some earlier obstructions, with rectangles that cover what has changed since, and with
-- the numbers of what has; where `adds` holds, nothing was but added, and where `removes` does, nothing was but removed
pub record AreBefore (map : Map) (now : Standing) (cells : List Numbering) (rects : List Rect) (ids : List ℕ)
    (adds removes : Bool) : Type 0 where
  pub earlier : Standing
  pub painted : ArePaintedChunks map earlier cells
  pub covered : CoverChanges map earlier now rects
  pub named : AreNamed earlier now ids
  pub only_adds : IsTrue adds → StillStands earlier now
  pub only_removes : IsTrue removes → StillStands now earlier

-- the size of a map, and rectangles that edits reach
pub record Reached : Type 0 where
  pub size : Size
  pub rects : List Rect

-- the part lies in the chunk and holds each cell of it that one of the rectangles holds
pub record HoldsReached (rects : List Rect) (chunk : Rect) (part : Option Rect) : Type 0 where
  pub inside : IfSome part (IsPartOf chunk)
  pub held : (cell : Cell) → IsInRect chunk cell → IsTrue (is_in_some rects cell)
      → IsSomeAnd part (λ (rect : Rect). IsInRect rect cell)
