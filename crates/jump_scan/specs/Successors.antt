-- The directions in which a search goes on from a cell that a step came to, after Harabor and Grastien, "Online Graph
-- Pruning for Pathfinding on Grid Maps", AAAI 2011, for legal steps, which cut no corner.
use Rattle.std.specs.Prelude.{Bool, ◌⊎◌, ◌↔◌, IsTrue, Option, Some, None}
use Rattle.nav_types.specs.declared.cells.Cell.{Cell}
use Rattle.nav_types.specs.declared.directions.Dir.{Dir}
use Rattle.nav_types.specs.declared.directions.DirSet.{DirSet}
use Rattle.nav_types.specs.DirSets.{holds}
use Rattle.nav_types.specs.Beside.{IsFreeBeside, IsLegalFrom}
use Rattle.nav_types.specs.Directions.{is_straight, Leads}
use Rattle.jump_scan.specs.declared.turns.Side.{Side}
use Rattle.jump_scan.specs.Turns.{aside_to, IsNatural, IsTurn}

-- the cell to that side of the one just before is not passable; off the map no cell is
abbrev pub IsBlockedBefore : (Cell → Bool) → Cell → Dir → Side → Type 0
IsBlockedBefore passes cell arrived side = (before : Cell) → Leads arrived before cell
    → IsFreeBeside passes before (aside_to side arrived) → ⊥

-- The turns to that side are forced: the step that came to the cell is straight, and the cell to that side of the one
-- just before is blocked.
abbrev pub IsForcing : (Cell → Bool) → Cell → Dir → Side → Type 0
IsForcing passes cell arrived side = IsTrue (is_straight arrived) × IsBlockedBefore passes cell arrived side

-- the direction is a forced turn
abbrev pub IsForced : (Cell → Bool) → Cell → Dir → Dir → Type 0
IsForced passes cell arrived dir = (side : Side) × (IsForcing passes cell arrived side × IsTurn side arrived dir)

-- a search goes on in the direction: by any legal step from a start, and else by a legal one that is natural or forced
abbrev pub IsSuccessor : (Cell → Bool) → Cell → Option Dir → Dir → Type 0
IsSuccessor passes cell None dir = IsLegalFrom passes cell dir
IsSuccessor passes cell (Some arrived) dir = IsLegalFrom passes cell dir
    × (IsNatural arrived dir ⊎ IsForced passes cell arrived dir)

-- some forced step is legal
abbrev pub HasForced : (Cell → Bool) → Cell → Dir → Type 0
HasForced passes cell arrived = (dir : Dir) × (IsLegalFrom passes cell dir × IsForced passes cell arrived dir)

-- the set is the directions in which the cell beside is passable
abbrev pub AreFreeBeside : (Cell → Bool) → Cell → DirSet → Type 0
AreFreeBeside passes cell free = (dir : Dir) → IsTrue (holds free dir) ↔ IsFreeBeside passes cell dir

-- the directions in which a search goes on from any passable cell beside which these are free, to which a step came
abbrev pub AreSuccessors : DirSet → Dir → DirSet → Type 0
AreSuccessors free arrived dirs = (passes : Cell → Bool) (cell : Cell) → IsTrue (passes cell) → AreFreeBeside passes cell free
    → (dir : Dir) → IsTrue (holds dirs dir) ↔ IsSuccessor passes cell (Some arrived) dir
