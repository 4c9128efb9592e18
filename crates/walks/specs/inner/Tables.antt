-- The table of the plain search: for each cell of a map, row by row, the cost of a walk from the start to it.
use Rattle.std.specs.Prelude.{ℕ, Bool, true, false, ◌≡◌, ◌+◌, ◌*◌, ◌<◌, ◌≤◌, List, length, slice_index, sum, count_by, nat_lt}
use Rattle.nav_types.specs.declared.limits.TheConstants.{DIAGONAL_COST}
use Rattle.nav_types.specs.declared.cells.Cell.{Cell}
use Rattle.nav_types.specs.declared.cells.Size.{Size}
use Rattle.nav_types.specs.declared.directions.Dir.{Dir}
use Rattle.nav_types.specs.Cells.{IsInside}
use Rattle.nav_types.specs.Places.{place_of}
use Rattle.nav_types.specs.Directions.{step_cost, Leads}
use Rattle.nav_types.specs.Walks.{Step, IsWalk, walk_cost, IsDistance}
use Rattle.walks.specs.Chosen.{Enters}

-- the table's cost for a cell
abbrev pub entry : Size → List ℕ → Cell → ℕ
entry size costs cell = slice_index costs (place_of size cell)

-- what the table has for a cell that no walk has reached
abbrev pub unreached : ℕ
unreached = 1099511627776

-- the table has one cost for each cell of the map
abbrev pub CoversMap : Size → List ℕ → Type 0
CoversMap size costs = length costs ≡ size.w * size.h

-- Each cost of the table is that of a walk from the start. No cost is more than a diagonal step for each reached cell.
pub record IsSoundTable (passes : Cell → Bool) (start : Cell) (size : Size) (costs : List ℕ) : Type 0 where
  pub covers : CoversMap size costs
  pub starts : entry size costs start ≡ 0
  pub most : (place : ℕ) → slice_index costs place ≤ unreached
  pub walks : (cell : Cell) → IsInside size cell → entry size costs cell < unreached
      → (dirs : List Dir) × (IsWalk passes start dirs cell × (walk_cost dirs ≡ entry size costs cell))
  pub few : (place : ℕ) → slice_index costs place < unreached
      → slice_index costs place ≤ DIAGONAL_COST * count_by (λ cost. nat_lt cost unreached) costs

-- the table is sound for some start
abbrev pub IsSoundForSome : (Cell → Bool) → Size → List ℕ → Type 0
IsSoundForSome passes size costs = (start : Cell) × IsSoundTable passes start size costs

-- no step from the cell in the direction makes a cost less
abbrev pub IsSettledAlong : (Cell → Bool) → Size → Cell → Dir → List ℕ → Type 0
IsSettledAlong passes size cell dir costs = (next : Cell) → Step passes dir cell next
    → entry size costs next ≤ entry size costs cell + step_cost dir

-- no step from the cell makes a cost less
abbrev pub IsSettledAt : (Cell → Bool) → Size → Cell → List ℕ → Type 0
IsSettledAt passes size cell costs = (dir : Dir) → IsSettledAlong passes size cell dir costs

-- no step makes a cost less
abbrev pub IsSettled : (Cell → Bool) → Size → List ℕ → Type 0
IsSettled passes size costs = (cell : Cell) → IsInside size cell → IsSettledAt passes size cell costs

-- costs fell, or the table stays and is settled there; a sound table stays sound
pub record Lowers (passes : Cell → Bool) (size : Size) (Settled : List ℕ → Type 0) (old new : List ℕ)
    (fell : Bool) : Type 0 where
  pub sound : (start : Cell) → IsSoundTable passes start size old → IsSoundTable passes start size new
  pub less : fell ≡ true → sum new < sum old
  pub same : fell ≡ false → new ≡ old
  pub settled : fell ≡ false → Settled new

-- the table has the distance from the start for each cell that is joined to it, and no cost for any other
pub record HasDistances (passes : Cell → Bool) (start : Cell) (size : Size) (costs : List ℕ) : Type 0 where
  pub covers : CoversMap size costs
  pub most : (place : ℕ) → slice_index costs place ≤ unreached
  pub distance : (cell : Cell) → IsInside size cell → entry size costs cell < unreached
      → IsDistance passes start cell (entry size costs cell)
  pub reached : (cell : Cell) (dirs : List Dir) → IsInside size cell → IsWalk passes start dirs cell
      → entry size costs cell < unreached

-- the cell is inside, and a walk has reached it
pub record IsReachedCell (size : Size) (costs : List ℕ) (cell : Cell) : Type 0 where
  pub inside : IsInside size cell
  pub walked : entry size costs cell < unreached

-- a step in the direction arrives at the cell from the one before, on a walk of least cost
pub record Arrives (passes : Cell → Bool) (start : Cell) (size : Size) (costs : List ℕ) (cell : Cell) (dir : Dir)
    (before : Cell) : Type 0 where
  pub leads : Leads dir before cell
  pub enters : Enters passes start cell dir
  pub reached : IsReachedCell size costs before
  pub less : entry size costs before < entry size costs cell
