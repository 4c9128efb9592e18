-- The table of marks from which a field is read, and how it is made. It has a place for each cell of the map and for a
-- border of one cell round it, row by row. A mark is 0 where no cell is passable, `free` where a passable cell is not
-- reached, and else one more than the cost of a walk from the cell to a target.
use Rattle.std.specs.Prelude.{ℕ, Bool, ◌≡◌, ◌+◌, ◌-◌, ◌*◌, ◌/◌, ◌%◌, ◌<◌, ◌≤◌, ◌⊎◌, ◌&&◌, List, length, map, slice_index, count_by, nat_lt, if◌then◌else◌, Contains, IsTrue, Option, Some, None}
use Rattle.std.specs.List.{range_with_len}
use Rattle.nav_types.specs.declared.limits.TheConstants.{DIAGONAL_COST}
use Rattle.nav_types.specs.declared.cells.Cell.{Cell}
use Rattle.nav_types.specs.declared.cells.Size.{Size}
use Rattle.nav_types.specs.declared.directions.Dir.{Dir}
use Rattle.nav_types.specs.Cells.{IsInside, cell_at}
use Rattle.nav_types.specs.Directions.{step_cost, north, east, south, west}
use Rattle.nav_types.specs.Places.{cell_of}
use Rattle.nav_types.specs.Walks.{Step, Joined}
use Rattle.flow_field.specs.Flows.{LeadsToTarget, FieldCells}

-- what the table has for a passable cell that is not reached
abbrev pub free : ℕ
free = 1099511627776

-- the place of a cell in the table
abbrev pub spot_of : Size → Cell → ℕ
spot_of size cell = (cell.j + 1) * (size.w + 2) + (cell.i + 1)

-- the mark of a cell
abbrev pub mark_of : Size → List ℕ → Cell → ℕ
mark_of size marks cell = slice_index marks (spot_of size cell)

-- a step in the direction leads from the one place of a table with rows of this width to the other
abbrev pub IsBesideSpot : ℕ → Dir → ℕ → ℕ → Type 0
IsBesideSpot width dir from to = from + north dir * width + east dir ≡ to + south dir * width + west dir

-- the cell that has a place of the table
abbrev pub cell_at_spot : Size → ℕ → Cell
cell_at_spot size spot = cell_at (spot % (size.w + 2) - 1) (spot / (size.w + 2) - 1)

-- the place is that of a cell of the map
pub record IsCellSpot (size : Size) (spot : ℕ) : Type 0 where
  pub inside : IsInside size (cell_at_spot size spot)
  pub same : spot ≡ spot_of size (cell_at_spot size spot)

-- the table has a mark for each cell and for the border, and only cells of the map have one other than 0
pub record IsTable (size : Size) (marks : List ℕ) : Type 0 where
  pub long : length marks ≡ (size.w + 2) * (size.h + 2)
  pub most : (spot : ℕ) → slice_index marks spot ≤ free
  pub cells : (spot : ℕ) → 0 < slice_index marks spot → IsCellSpot size spot

-- whether a mark is that of a reached cell
abbrev pub is_reached : ℕ → Bool
is_reached mark = nat_lt 0 mark && nat_lt mark free

-- the Far that a mark stands for
abbrev pub far_of : ℕ → Option ℕ
far_of mark = if is_reached mark then Some (mark - 1) else None

-- what contracts see of a table
abbrev pub cells_of : Size → List ℕ → FieldCells
cells_of size marks = record {
  size = size;
  fars = map (λ (place : ℕ). far_of (mark_of size marks (cell_of size place))) (range_with_len 0 (size.w * size.h));
}

-- a run of places was cleared, and no other place changed
pub record IsRunCleared (from end : ℕ) (old new : List ℕ) : Type 0 where
  pub long : length new ≡ length old
  pub cleared : (spot : ℕ) → from ≤ spot → spot < end → slice_index new spot ≡ 0
  pub kept : (spot : ℕ) → (spot < from) ⊎ (end ≤ spot) → slice_index new spot ≡ slice_index old spot

-- the place is that of a passable cell
abbrev pub IsFreeSpot : (Cell → Bool) → Size → ℕ → Type 0
IsFreeSpot passes size spot = (cell : Cell) × (IsTrue (passes cell) × (spot ≡ spot_of size cell))

-- places are cleared up to this one, those of passable cells left out, and every other is free
pub record IsCleared (passes : Cell → Bool) (size : Size) (end : ℕ) (marks : List ℕ) : Type 0 where
  pub long : length marks ≡ (size.w + 2) * (size.h + 2)
  pub each : (spot : ℕ) → spot < length marks
      → (slice_index marks spot ≡ free) ⊎ ((slice_index marks spot ≡ 0) × (IsFreeSpot passes size spot → ⊥))
  pub cleared : (spot : ℕ) → spot < end → (slice_index marks spot ≡ 0) ⊎ IsFreeSpot passes size spot

-- the table where nothing is reached
pub record IsFilled (passes : Cell → Bool) (size : Size) (marks : List ℕ) : Type 0 where
  pub long : length marks ≡ (size.w + 2) * (size.h + 2)
  pub each : (spot : ℕ) → (slice_index marks spot ≡ 0) ⊎ ((slice_index marks spot ≡ free) × IsFreeSpot passes size spot)
  pub passable : (cell : Cell) → IsTrue (passes cell) → mark_of size marks cell ≡ free

-- each mark is what it stands for
pub record IsSound (passes hit : Cell → Bool) (start : Cell) (size : Size) (marks : List ℕ) : Type 0 where
  pub inside : (cell : Cell) → IsTrue (passes cell) → IsInside size cell
  pub long : length marks ≡ (size.w + 2) * (size.h + 2)
  pub most : (spot : ℕ) → slice_index marks spot ≤ free
  pub passable : (cell : Cell) → IsTrue (passes cell) → 0 < mark_of size marks cell
  pub cells : (spot : ℕ) → 0 < slice_index marks spot → (cell : Cell) × (IsTrue (passes cell) × (spot ≡ spot_of size cell))
  pub joined : (cell : Cell) → IsTrue (passes cell) → mark_of size marks cell < free → Joined passes start cell
  pub walks : (cell : Cell) → IsTrue (passes cell) → mark_of size marks cell < free
      → (dirs : List Dir) × LeadsToTarget passes hit cell dirs (mark_of size marks cell - 1)
  pub few : (spot : ℕ) → slice_index marks spot < free
      → slice_index marks spot ≤ 1 + DIAGONAL_COST * count_by (λ mark. nat_lt mark free) marks

-- no legal step from the cell in the direction makes a mark less
abbrev pub IsSettledAlong : (Cell → Bool) → Size → List ℕ → Cell → Dir → Type 0
IsSettledAlong passes size marks cell dir = (next : Cell) → Step passes dir cell next
    → mark_of size marks next ≤ mark_of size marks cell + step_cost dir

-- the place waits in one of the two lists
abbrev pub Waits : List ℕ → List ℕ → ℕ → Type 0
Waits straight diagonal spot = Contains straight spot ⊎ Contains diagonal spot

-- Marks spread from the targets: each mark is what it stands for, found targets are marked, and from each reached cell
-- each step is settled or left out, unless the cell waits.
pub record IsSpreading (passes hit : Cell → Bool) (start : Cell) (size : Size) (Found : Cell → Type 0)
    (LeftOut : Cell → Dir → Type 0) (marks : List ℕ) (Waiting : ℕ → Type 0) : Type 0 where
  pub sound : IsSound passes hit start size marks
  pub reached : (spot : ℕ) → Waiting spot → (0 < slice_index marks spot) × (slice_index marks spot < free)
  pub ends : (target : Cell) → Found target → IsTrue (hit target) → Joined passes start target
      → mark_of size marks target ≡ 1
  pub settled : (cell : Cell) (dir : Dir) → IsTrue (passes cell) → mark_of size marks cell < free
      → IsSettledAlong passes size marks cell dir ⊎ (Waiting (spot_of size cell) ⊎ LeftOut cell dir)

-- all cells
abbrev pub Every : Cell → Type 0
Every cell = Unit {0}

-- no step is left out
abbrev pub NoStep : Cell → Dir → Type 0
NoStep cell dir = ⊥
