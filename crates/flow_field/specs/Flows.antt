-- Flow fields: for each cell of an area its distance to the nearest target, and the step to take. `passes` says which
-- cells are passable, `hit` which are targets. Costs are in units of 65536 for a straight step.
use Rattle.std.specs.Prelude.{ℕ, Bool, ◌≡◌, ◌+◌, ◌*◌, ◌≤◌, ◌⊎◌, List, [], ◌∷◌, length, map, sum_by, All, Contains, IsTrue, Option, Some, None, slice_index_or}
use Rattle.nav_types.specs.declared.cells.Cell.{Cell}
use Rattle.nav_types.specs.declared.cells.Size.{Size}
use Rattle.nav_types.specs.declared.directions.Dir.{Dir}
use Rattle.nav_types.specs.Cells.{IsInside}
use Rattle.nav_types.specs.Counting.{Lists}
use Rattle.nav_types.specs.Directions.{step_cost, Leads}
use Rattle.nav_types.specs.Places.{place_of}
use Rattle.nav_types.specs.Walks.{Step, IsWalk, walk_cost, Joined}
use Rattle.walks.specs.Chosen.{preference, IsFirstIn}
use Rattle.posts.specs.declared.notes.FlowSummary.{FlowSummary}

-- a legal walk of this cost leads from the cell to a target
pub record LeadsToTarget (passes hit : Cell → Bool) (cell : Cell) (dirs : List Dir) (cost : ℕ) : Type 0 where
  pub target : Cell
  pub is_hit : IsTrue (hit target)
  pub walk : IsWalk passes cell dirs target
  pub costs : walk_cost dirs ≡ cost

-- the least cost of a legal walk from the cell to a target
pub record IsNearest (passes hit : Cell → Bool) (cell : Cell) (cost : ℕ) : Type 0 where
  pub walk : (dirs : List Dir) × LeadsToTarget passes hit cell dirs cost
  pub least : (target : Cell) (dirs : List Dir) → IsTrue (hit target) → IsWalk passes cell dirs target
      → cost ≤ walk_cost dirs

-- Far: none where no walk joins the cell to the start, else the least cost of a walk from the cell to a target
abbrev pub IsFar : (Cell → Bool) → (Cell → Bool) → Cell → Cell → Option ℕ → Type 0
IsFar passes hit start cell None = Joined passes start cell → ⊥
IsFar passes hit start cell (Some cost) = Joined passes start cell × IsNearest passes hit cell cost

-- a legal step in the direction leads nearer to the targets by all that it costs
pub record Descends (passes hit : Cell → Bool) (cell : Cell) (dir : Dir) : Type 0 where
  pub next : Cell
  pub step : Step passes dir cell next
  pub cost : ℕ
  pub far : IsNearest passes hit next cost
  pub here : IsNearest passes hit cell (cost + step_cost dir)

-- Next: none where Far is none or 0, else the first direction by preference, straight ones first, that descends
abbrev pub IsNext : (Cell → Bool) → (Cell → Bool) → Cell → Cell → Option Dir → Type 0
IsNext passes hit start cell None = (Joined passes start cell → ⊥) ⊎ IsNearest passes hit cell 0
IsNext passes hit start cell (Some dir) = Joined passes start cell × IsFirstIn (Descends passes hit cell) preference dir

-- what a field has: the size of its map, and Far of each cell, row by row
pub record FieldCells : Type 0 where
  pub size : Size
  pub fars : List (Option ℕ)

-- the field's Far of a cell
abbrev pub far_in : FieldCells → Cell → Option ℕ
far_in field cell = slice_index_or field.fars (place_of field.size cell) None

-- the field has Far of each cell of its map, for the targets that can be walked to from the passable start
pub record IsFieldOf (passes hit : Cell → Bool) (start : Cell) (field : FieldCells) : Type 0 where
  pub covers : length field.fars ≡ field.size.w * field.size.h
  pub begins : IsTrue (passes start)
  pub inside : (cell : Cell) → IsTrue (passes cell) → IsInside field.size cell
  pub fars : (cell : Cell) → IsInside field.size cell → IsFar passes hit start cell (far_in field cell)

-- each step of the walk is Next of its cell, and the walk ends where there is none
abbrev pub Follows : (Cell → Bool) → (Cell → Bool) → Cell → Cell → List Dir → Type 0
Follows passes hit start cell [] = IsNext passes hit start cell None
Follows passes hit start cell (dir ∷ dirs) = IsNext passes hit start cell (Some dir)
    × ((next : Cell) × (Leads dir cell next × Follows passes hit start next dirs))

-- the numbers are those of one list of all cells that have a Far, each with its Far: how many, the greatest, the sum
pub record HasSummary (passes hit : Cell → Bool) (start : Cell) (summary : FlowSummary) : Type 0 where
  pub fars : List (Cell × ℕ)
  pub lists : Lists (λ (far : Cell × ℕ). IsFar passes hit start far.0 (Some far.1)) fars
  pub cells : length fars ≡ summary.cells
  pub most : All (λ (far : Cell × ℕ). far.1 ≤ summary.farthest) fars
  pub reached : Contains (map (λ (far : Cell × ℕ). far.1) fars) summary.farthest
  pub sum : sum_by (λ (far : Cell × ℕ). far.1) fars ≡ summary.sum
