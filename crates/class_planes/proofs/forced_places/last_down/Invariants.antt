use Rattle.std.proofs.Common.{ℕ, ◌≡◌, ◌<◌, ◌≤◌, ◌*◌}
use Rattle.class_planes.specs.inner.Runs.{open_down}
use Rattle.class_planes.proofs.forced_places.last_down.Given as goal

abbrev pub invariant-down : goal.invariant-down
invariant-down l =
    record {
      within : l.w ≤ l.fn.first;
      none : (i : ℕ) → 64 * l.w ≤ i → i < 64 * l.fn.first → open_down l.fn.left l.fn.right i ≡ 0;
    }

abbrev pub decreases-down : goal.decreases-down
decreases-down l = l.w
