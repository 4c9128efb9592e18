use Rattle.std.proofs.Common.{◌-◌, ◌≡◌, ◌≤◌, ◌<◌, ℕ, slice_index}
use Rattle.pathserve_c.proofs.grids.run_end.Given as goal

abbrev pub invariant-cells : goal.invariant-cells
invariant-cells l = (l.from < l.behind) × (l.behind ≤ l.width)
    × ((i : ℕ) → l.from ≤ i → i < l.behind → slice_index l.row i ≡ slice_index l.row l.from)

abbrev pub decreases-cells : goal.decreases-cells
decreases-cells l = l.width - l.behind
