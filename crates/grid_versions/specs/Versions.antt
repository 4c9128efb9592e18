-- A version of a map.
use Rattle.std.specs.Prelude.{ℕ, Bool, IsTrue}
use Rattle.nav_types.specs.declared.cells.Cell.{Cell}
use Rattle.obstruction_store.specs.Standing.{Standing}
use Rattle.posts.specs.Maps.{Map}
use Rattle.grid_versions.specs.Passing.{passable_at}

-- a map and its standing obstructions
pub record MapState : Type 0 where
  pub map : Map
  pub standing : Standing

-- the state of this map under these standing obstructions
abbrev pub map_state : Map → Standing → MapState
map_state map standing = record { map = map; standing = standing }

-- whether the cell is passable for class k
abbrev pub passes_of : MapState → ℕ → Cell → Bool
passes_of state k cell = passable_at state.map state.standing k cell

-- some cell is passable
abbrev pub HasPassable : (Cell → Bool) → Type 0
HasPassable passes = (cell : Cell) × IsTrue (passes cell)
