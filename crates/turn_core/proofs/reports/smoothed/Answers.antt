use Rattle.std.proofs.Common.{IfOk, subst, sym}
use Rattle.line_smooth.specs.Smoothed.{AreCorners, IsSmoothing}
use Rattle.grid_versions.specs.Versions.{MapState, passes_of}
use Rattle.turn_core.proofs.reports.smoothed.Goals as goal

pub smooth-requires-clause-corners : goal.smooth-requires-clause-corners
smooth-requires-clause-corners c =
    subst (λ (s : MapState). AreCorners (passes_of s c.args.class) c.args.start c.args.corners.now) (sym c.class_view-view.ensures) c.requires.corners

pub returns : goal.returns
returns c =
    subst (λ (s : MapState). IfOk c.smooth.result (IsSmoothing (passes_of s c.args.class) c.args.start c.args.corners.now))
    c.class_view-view.ensures c.smooth.ensures
