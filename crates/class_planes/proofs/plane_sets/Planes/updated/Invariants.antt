use Rattle.std.proofs.Common.{ℕ, ◌≡◌, ◌<◌, length, get_or, map, None, option_map}
use Rattle.std.specs.Prelude.{is_some}
use Rattle.std.specs.Arc.{arc_value}
use Rattle.class_planes.specs.Planes.{IsPlaneIn}
use Rattle.class_planes.proofs.plane_sets.Planes.updated.Given as goal

-- the planes of the classes before `number` are done
abbrev pub invariant-loop-number : goal.invariant-loop-number
invariant-loop-number g l = record {
  many : length l.planes.items ≡ l.number;
  each : (class : ℕ) → class < l.number → IsPlaneIn (g.V.View.extent l.view) (g.V.View.passes l.view class)
      (is_some (get_or (map (option_map arc_value) l.self-inside.planes.items) class None))
      (get_or (map (option_map arc_value) l.planes.items) class None);
}
