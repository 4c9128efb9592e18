-- The smoothed waypoints of a walk.
use Rattle.std.specs.Prelude.{ℕ, ◌≤◌, List, length, Result, Ok, Err}
use Rattle.nav_types.specs.declared.cells.Cell.{Cell}
use Rattle.line_smooth.specs.Smoothed.{IsSmoothing}
use Rattle.grid_versions.specs.Versions.{MapState, passes_of}
use Rattle.pathserve_c.specs.declared.statuses.PostFault.{PostFault}
use Rattle.pathserve_c.specs.declared.statuses.PostFault.TheVariants as fault
use Rattle.pathserve_c.specs.Sights.{IsHeldWalk}

-- the corners are those of a walk, and the points, which are no more, are its smoothed waypoints
pub record IsSmoothedWalk (version : MapState) (k : ℕ) (start : Cell) (corners points : List Cell) : Type 0 where
  pub walk : IsHeldWalk version k start corners
  pub smoothing : IsSmoothing (passes_of version k) start corners points
  pub few : length points ≤ length corners

-- the answer gives such points; it refuses where there was no memory, or the corners are those of no walk
abbrev pub IsSmoothedAs : MapState → ℕ → Cell → List Cell → Result (List Cell) PostFault → Type 0
IsSmoothedAs version k start corners (Ok points) = IsSmoothedWalk version k start corners points
IsSmoothedAs version k start corners (Err fault.BadValue) = IsHeldWalk version k start corners → ⊥
IsSmoothedAs version k start corners (Err fault.NoMemory) = Unit {0}
