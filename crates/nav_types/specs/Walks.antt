-- Legal steps, legal walks, their cost and the distance. `passes` says which cells are passable.
use Rattle.std.specs.Prelude.{ℕ, Bool, ◌≡◌, ◌≤◌, List, [], ◌∷◌, IsTrue, sum_by}
use Rattle.nav_types.specs.declared.cells.Cell.{Cell}
use Rattle.nav_types.specs.declared.directions.Dir.{Dir}
use Rattle.nav_types.specs.Cells.{cell_at}
use Rattle.nav_types.specs.Directions.{Leads, step_cost}

-- A legal step: both cells are passable, and so are the two cells beside a diagonal step, so no corner is cut.
-- Of a straight step those two are its own cells.
pub record Step (passes : Cell → Bool) (dir : Dir) (from to : Cell) : Type 0 where
  pub leads : Leads dir from to
  pub start : IsTrue (passes from)
  pub next : IsTrue (passes to)
  pub side : IsTrue (passes (cell_at to.i from.j))
  pub ahead : IsTrue (passes (cell_at from.i to.j))

-- the directions are a legal walk from one cell to the other
abbrev pub IsWalk : (Cell → Bool) → Cell → List Dir → Cell → Type 0
IsWalk passes from [] to = from ≡ to
IsWalk passes from (dir ∷ dirs) to = (next : Cell) × (Step passes dir from next × IsWalk passes next dirs to)

-- the cost of a walk, in units of 65536 for a straight step
abbrev pub walk_cost : List Dir → ℕ
walk_cost dirs = sum_by step_cost dirs

-- a legal walk joins the two cells
abbrev pub Joined : (Cell → Bool) → Cell → Cell → Type 0
Joined passes from to = (dirs : List Dir) × IsWalk passes from dirs to

-- a legal walk joins the cell and some cell of the set
abbrev pub CanReach : (Cell → Bool) → Cell → (Cell → Bool) → Type 0
CanReach passes from within = (cell : Cell) × (IsTrue (within cell) × Joined passes from cell)

-- the least cost of a legal walk from one cell to the other
pub record IsDistance (passes : Cell → Bool) (from to : Cell) (cost : ℕ) : Type 0 where
  pub walk : (dirs : List Dir) × (IsWalk passes from dirs to × (walk_cost dirs ≡ cost))
  pub least : (dirs : List Dir) → IsWalk passes from dirs to → cost ≤ walk_cost dirs
