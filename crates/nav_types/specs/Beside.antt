-- What lies around a cell.
use Rattle.std.specs.Prelude.{Bool, IsTrue}
use Rattle.nav_types.specs.declared.cells.Cell.{Cell}
use Rattle.nav_types.specs.declared.directions.Dir.{Dir}
use Rattle.nav_types.specs.Directions.{Leads}
use Rattle.nav_types.specs.Walks.{Step}

-- the cell that one step in the direction leads to is passable; off the map no cell is
abbrev pub IsFreeBeside : (Cell → Bool) → Cell → Dir → Type 0
IsFreeBeside passes cell dir = (next : Cell) × (Leads dir cell next × IsTrue (passes next))

-- a step in the direction is legal from the cell
abbrev pub IsLegalFrom : (Cell → Bool) → Cell → Dir → Type 0
IsLegalFrom passes cell dir = (next : Cell) × Step passes dir cell next
