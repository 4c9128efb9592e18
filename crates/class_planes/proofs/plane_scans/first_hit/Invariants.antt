use Rattle.std.proofs.Common.{ℕ, ◌<◌, ◌≤◌, IsFalse}
use Rattle.class_planes.specs.inner.Runs.{cell_along}
use Rattle.class_planes.proofs.plane_scans.first_hit.Given as goal

abbrev pub invariant-loop-steps : goal.invariant-loop-steps
invariant-loop-steps g l =
    (n : ℕ) → 0 < n → n < l.steps → n ≤ l.fn.count → IsFalse (g.A.Aim.hit l.aim l.size (cell_along l.straight l.from n))
