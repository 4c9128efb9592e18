use Rattle.std.proofs.Common.{subst}
use Rattle.line_smooth.specs.Smoothed.{IsSmoothing}
use Rattle.grid_versions.specs.Versions.{MapState, passes_of}
use Rattle.pathserve_c.proofs.Sighted.{smoothed_walk}
use Rattle.pathserve_c.proofs.sights.smoothed_walk.Goals as goal

pub returns-in-Ok : goal.returns-in-Ok
returns-in-Ok c =
    let points = c.in-Ok.points in
    let is = subst (λ (s : MapState). IsSmoothing (passes_of s c.args.class) c.args.start c.args.corners.now points) c.class_view-view.ensures c.in-Ok.ensures in
    smoothed_walk c.args.version.now c.args.class c.args.start c.args.corners.now points c.requires.walk is
