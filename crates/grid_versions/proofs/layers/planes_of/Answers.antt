use Rattle.std.proofs.Common.{length, subst}
use Rattle.std.proofs.lemmas.Result.{IfOk-weaker}
use Rattle.class_planes.specs.Planes.{ArePlanes}
use Rattle.grid_versions.specs.Versions.{MapState, passes_of}
use Rattle.grid_versions.proofs.layers.planes_of.Goals as goal

pub returns : goal.returns
returns c =
    IfOk-weaker c.build.result _ _
    (λ planes are.
    subst (λ (s : MapState). ArePlanes s.map.size (passes_of s) 65535 (length s.map.classes) planes) c.new-painted.ensures are)
    c.build.ensures.wanted
