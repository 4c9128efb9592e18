use Rattle.std.proofs.Common.{ℕ}
use Rattle.nav_types.specs.Places.{cell_of}
use Rattle.walks.proofs.Tracing.{IsNearest}
use Rattle.walks.proofs.distances.Distances.nearest.Given as goal

abbrev pub invariant-loop-place : goal.invariant-loop-place
invariant-loop-place g l =
    let size = g.V.View.extent l.view in
    IsNearest l.self.costs.items (λ (k : ℕ). g.A.Aim.hit l.aim size (cell_of size k)) l.place l.least l.best
