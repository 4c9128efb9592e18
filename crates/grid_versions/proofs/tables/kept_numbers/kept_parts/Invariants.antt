use Rattle.std.specs.Prelude.{All}
use Rattle.class_planes.specs.Planes.{is_passable}
use Rattle.grid_versions.specs.inner.Keeping.{IsKeptPart}
use Rattle.grid_versions.proofs.tables.kept_numbers.kept_parts.Given as goal

abbrev pub invariant-loop-part : goal.invariant-loop-part
invariant-loop-part l = All (IsKeptPart (is_passable l.changed.before.now) (is_passable l.plane) l.plane.size) l.kept.items
