-- The legal turns to a side, and directions that are added to a set.
use Rattle.std.specs.Prelude.{Bool, IsTrue, ◌≡◌, ◌⊎◌, ◌↔◌}
use Rattle.nav_types.specs.declared.cells.Cell.{Cell}
use Rattle.nav_types.specs.declared.directions.Dir.{Dir}
use Rattle.nav_types.specs.declared.directions.DirSet.{DirSet}
use Rattle.nav_types.specs.DirSets.{holds}
use Rattle.nav_types.specs.Beside.{IsFreeBeside, IsLegalFrom}
use Rattle.jump_scan.specs.declared.turns.Side.{Side}
use Rattle.jump_scan.specs.Turns.{IsTurn}
use Rattle.jump_scan.specs.Successors.{IsForcing}

-- a legal step in the direction is a forced turn to the side
abbrev pub IsLegalTurn : (Cell → Bool) → Cell → Dir → Side → Dir → Type 0
IsLegalTurn passes cell arrived side dir = IsForcing passes cell arrived side × (IsTurn side arrived dir × IsLegalFrom passes cell dir)

-- the new set has the direction too where the cell beside is passable
abbrev pub AddsFree : (Cell → Bool) → Cell → Dir → DirSet → DirSet → Type 0
AddsFree passes cell dir old new = (other : Dir) → IsTrue (holds new other)
    ↔ (IsTrue (holds old other) ⊎ (IsFreeBeside passes cell other × (other ≡ dir)))
