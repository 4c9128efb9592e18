-- The waypoints of a walk.
use Rattle.std.specs.Prelude.{Bool, true, not, ◌+◌, ◌-◌, ◌<◌, ◌&&◌, ◌==◌, List, [], ◌∷◌, ◌++◌, if◌then◌else◌}
use Rattle.nav_types.specs.declared.limits.TheConstants.{MAX_SIDE}
use Rattle.nav_types.specs.declared.cells.Cell.{Cell}
use Rattle.nav_types.specs.declared.directions.Dir.{Dir}
use Rattle.nav_types.specs.Cells.{cell_at}
use Rattle.nav_types.specs.Directions.{east, west, north, south, Leads}

-- the cell that a step in the direction leads to
abbrev pub cell_after : Dir → Cell → Cell
cell_after dir cell = cell_at (cell.i + east dir - west dir) (cell.j + north dir - south dir)

-- the two directions go the same way
abbrev pub is_same_way : Dir → Dir → Bool
is_same_way a b = (east a == east b) && (west a == west b) && (north a == north b) && (south a == south b)

-- the walk goes another way after the step, or ends
abbrev pub is_corner : Dir → List Dir → Bool
is_corner dir [] = true
is_corner dir (next ∷ dirs) = not (is_same_way dir next)

-- the cells where the direction changes, then the last cell; none for the empty walk
abbrev pub waypoints : Cell → List Dir → List Cell
waypoints from [] = []
waypoints from (dir ∷ dirs) = (if is_corner dir dirs then cell_after dir from ∷ [] else [])
    ++ waypoints (cell_after dir from) dirs

-- the cell lies in the largest map
abbrev pub IsInGrid : Cell → Type 0
IsInGrid cell = (cell.i < MAX_SIDE) × (cell.j < MAX_SIDE)

-- the walk from the cell stays in the largest map
abbrev pub StaysInGrid : Cell → List Dir → Type 0
StaysInGrid from [] = IsInGrid from
StaysInGrid from (dir ∷ dirs) = IsInGrid from × ((next : Cell) × (Leads dir from next × StaysInGrid next dirs))
