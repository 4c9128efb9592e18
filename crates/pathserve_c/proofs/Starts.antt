-- Where paths start.
use Rattle.std.proofs.Common.{◌<◌, ℕ, length}
use Rattle.std.specs.Prelude.{ℤ, Option, Some, None, IfSome}
use Rattle.fixed_point.specs.Plane.{IsOnAxis}
use Rattle.nav_types.specs.declared.cells.Cell.{Cell}
use Rattle.goal_reach.specs.Starts.{IsStartCell}
use Rattle.grid_versions.specs.Versions.{MapState, passes_of}
use Rattle.pathserve_c.specs.Questions.{StartsAt}
use Rattle.pathserve_c.proofs.Places.{passes_class}

-- a path starts for classes of the map alone
pub no_class : (version : MapState) (k : ℕ) (x z : ℤ) (cell : Cell) → (k < length version.map.classes → ⊥) → StartsAt version k x z cell → ⊥
no_class version k x z cell none starts = none (passes_class version k cell starts.start.passable)

pub start_there : (version : MapState) (k : ℕ) (x z : ℤ) (found : Option Cell) → IsOnAxis version.map.size.w x × IsOnAxis version.map.size.h z
    → IfSome found (IsStartCell (passes_of version k) x z) → IfSome found (StartsAt version k x z)
start_there version k x z None on start = tt
start_there version k x z (Some cell) on start = record { column = on.0; row = on.1; start = start }
