-- The plane of one class before some parts of its map changed.
use Rattle.std.specs.Prelude.{ℕ, Bool, ◌≡◌, List}
use Rattle.nav_types.specs.declared.cells.Cell.{Cell}
use Rattle.nav_types.specs.declared.cells.Size.{Size}
use Rattle.class_planes.specs.declared.changed_parts.ChangedPart.{ChangedPart}
use Rattle.class_planes.specs.Planes.{PlaneCells, is_passable, IsKept}

-- the plane of a map of this size before it changed, where these cells are passable for the class now
pub record IsPlaneBefore (size : Size) (passes : Cell → Bool) (parts : List ChangedPart) (class : ℕ)
    (plane : PlaneCells) : Type 0 where
  pub extent : plane.size ≡ size
  pub same : (cell : Cell) → IsKept parts class cell → is_passable plane cell ≡ passes cell
