use Rattle.std.proofs.Common.{map, option_map}
use Rattle.std.specs.Arc.{arc_value}
use Rattle.class_planes.specs.Planes.{ArePlanes}
use Rattle.class_planes.proofs.plane_sets.Planes.build.Given as goal

abbrev pub invariant-loop-number : goal.invariant-loop-number
invariant-loop-number g l =
    ArePlanes (g.V.View.extent l.view) (g.V.View.passes l.view) l.classes l.number
    (map (option_map arc_value) l.planes.items)
