use Rattle.std.proofs.Common.{subst, sym}
use Rattle.line_smooth.specs.Smoothed.{AreCorners}
use Rattle.posts.specs.declared.replies.PathAnswer.{PathAnswer}
use Rattle.grid_versions.specs.Versions.{passes_of}
use Rattle.turn_core.proofs.NotedPaths.{found_corners}
use Rattle.turn_core.proofs.searches.TargetSearch.noted.Goals as goal

pub smoothed-requires-clause-corners : goal.smoothed-requires-clause-corners
smoothed-requires-clause-corners c =
    let search = c.args.self.now in
    let state = search.version.now in
    let found = c.in_ok-find-in-Smoothed.field-0 in
    subst (λ (path : PathAnswer). AreCorners (passes_of state search.class) search.start path.waypoints) (sym c.path_of-path-in-Smoothed.ensures)
    (found_corners state search.class search.start search.target.now found c.in_ok-find-in-Smoothed.ensures)
