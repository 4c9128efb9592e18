-- Maps whose terrain is a grid of masks: a number for each cell, row by row from the south, whose bit k makes the cell impassable
-- for class k.
use Rattle.std.specs.Prelude.{ℕ, ◌≡◌, ◌≢◌, ◌+◌, ◌*◌, Bool, List, [], All, length, slice_index, Option, Some, None}
use Rattle.nav_types.specs.declared.cells.Cell.{Cell}
use Rattle.nav_types.specs.declared.cells.Rect.{Rect}
use Rattle.nav_types.specs.declared.cells.Size.{Size}
use Rattle.nav_types.specs.Cells.{IsInside, IsRectInside}
use Rattle.lane_rows.specs.Rows.{has_class}
use Rattle.posts.specs.Maps.{Map}
use Rattle.grid_versions.specs.Passing.{is_listed}
use Rattle.flat_posts.specs.declared.map_parts.FlatClass.{FlatClass}
use Rattle.flat_posts.specs.declared.maps.FlatMap.{FlatMap}
use Rattle.flat_posts.specs.Maps.{IsMapOf}
use Rattle.pathserve_c.specs.declared.states.State.{State}
use Rattle.pathserve_c.specs.declared.statuses.TheConstants.{DONE, NO_MEMORY, OPEN, BAD_VALUE}
use Rattle.pathserve_c.specs.Calls.{IsNewOn, IsRefused}

-- bit k of the mask of a cell
abbrev pub is_masked : Size → List ℕ → ℕ → Cell → Bool
is_masked size masks k cell = has_class k (slice_index masks (cell.j * size.w + cell.i))

-- the rectangles, with their masks, make each cell of the map impassable for the classes of its mask in the grid, and for no other
abbrev pub AreRectsOf : Size → List ℕ → List (Rect × ℕ) → Type 0
AreRectsOf size masks rects = (k : ℕ) (cell : Cell) → IsInside size cell → is_listed rects k cell ≡ is_masked size masks k cell

-- The map has this frame, these classes, and base rectangles inside it that are the grid. Which rectangles they are is left open:
-- what is passable depends on what they hold alone.
pub record IsGridMapOf (frame : FlatMap) (classes : List FlatClass) (masks : List ℕ) (map : Map) : Type 0 where
  pub rest : IsMapOf frame classes [] (record map { base = [] })
  pub count : length masks ≡ map.size.w * map.size.h
  pub inside : All (λ (entry : Rect × ℕ). IsRectInside map.size entry.0) map.base
  pub grid : AreRectsOf map.size masks map.base

-- a closed handle was opened for a match on such a map; else there is none, or there was no memory
abbrev pub IsMadeOnGrid : FlatMap → List FlatClass → List ℕ → Option State → ℕ → Type 0
IsMadeOnGrid frame classes masks None status =
    status ≢ NO_MEMORY → (status ≡ BAD_VALUE) × ((map : Map) → ¬ IsGridMapOf frame classes masks map)
IsMadeOnGrid frame classes masks (Some made) status =
    (status ≡ DONE) × ((map : Map) × (IsGridMapOf frame classes masks map × IsNewOn map made))

-- a match was opened on a map and a grid
abbrev pub IsOpenedOnGrid : FlatMap → List FlatClass → List ℕ → Option State → Option State → ℕ → Type 0
IsOpenedOnGrid frame classes masks (Some state) new status = IsRefused OPEN (Some state) new status
IsOpenedOnGrid frame classes masks None new status = IsMadeOnGrid frame classes masks new status
