-- Lines of sight, and the smoothing of waypoints that a game holds.
use Rattle.std.specs.Prelude.{ℕ, ◌≡◌, ◌⊎◌, ◌++◌, List, length, map, drop, Option, Some, Result, Ok, Err, IsTrue}
use Rattle.nav_types.specs.declared.cells.Cell.{Cell}
use Rattle.nav_types.specs.Cells.{cell_at}
use Rattle.line_smooth.specs.Smoothed.{AreCorners, IsSmoothing}
use Rattle.grid_versions.specs.Versions.{MapState, passes_of}
use Rattle.flat_posts.specs.declared.cells.FlatCell.{FlatCell}
use Rattle.flat_posts.specs.Cells.{flat_cell}
use Rattle.pathserve_c.specs.declared.statuses.PostFault.{PostFault}
use Rattle.pathserve_c.specs.declared.statuses.PostFault.TheVariants as fault
use Rattle.pathserve_c.specs.declared.states.State.{State}
use Rattle.pathserve_c.specs.declared.states.State.TheVariants.{View}
use Rattle.pathserve_c.specs.Statuses.{refusal, status_of_posts}

-- 1 was said where it is so, and 0 where it is not
abbrev pub IsOneWhere : Type 0 → ℕ → Type 0
IsOneWhere Is said = (Is × (said ≡ 1)) ⊎ ((Is → ⊥) × (said ≡ 0))

-- the cells that flat ones are
abbrev pub cell_held : FlatCell → Cell
cell_held flat = cell_at flat.i flat.j

abbrev pub cells_held : List FlatCell → List Cell
cells_held flats = map cell_held flats

-- the start is passable for class k, and the cells are the waypoints of a legal walk from there
pub record IsHeldWalk (version : MapState) (k : ℕ) (start : Cell) (corners : List Cell) : Type 0 where
  pub passable : IsTrue (passes_of version k start)
  pub walk : AreCorners (passes_of version k) start corners

-- what a call that smooths writes: the waypoints, and how many were kept
pub record WalkRoom : Type 0 where
  pub waypoints : List FlatCell
  pub kept : ℕ

-- The waypoints are those of a walk, and its smoothed ones stand at the head of the buffer; what lies behind them stays.
pub record Smooths (version : MapState) (k : ℕ) (start : Cell) (before after : WalkRoom) : Type 0 where
  pub walk : IsHeldWalk version k start (cells_held before.waypoints)
  pub points : List Cell
  pub smoothing : IsSmoothing (passes_of version k) start (cells_held before.waypoints) points
  pub kept : after.kept ≡ length points
  pub written : after.waypoints ≡ map flat_cell points ++ drop (length points) before.waypoints

-- what an answer says of waypoints that were to be smoothed: it refuses where there was no memory, or they are those of no walk
abbrev pub SmoothsAs : MapState → ℕ → Cell → (before after : WalkRoom) → Result (Unit {0}) PostFault → Type 0
SmoothsAs version k start before after (Ok done) = Smooths version k start before after
SmoothsAs version k start before after (Err fault.BadValue) = (after ≡ before)
    × (IsHeldWalk version k start (cells_held before.waypoints) → ⊥)
SmoothsAs version k start before after (Err fault.NoMemory) = after ≡ before

-- the same on what a handle shows; anything else than a view refuses
abbrev pub IsSmoothed : Option State → ℕ → Cell → (before after : WalkRoom) → ℕ → Type 0
IsSmoothed (Some (View version)) k start before after status = (answer : Result (Unit {0}) PostFault)
    × ((status ≡ status_of_posts answer) × SmoothsAs version k start before after answer)
IsSmoothed state k start before after status = (status ≡ refusal state) × (after ≡ before)
