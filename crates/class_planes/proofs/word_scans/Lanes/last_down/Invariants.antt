use Rattle.std.proofs.Common.{ℕ, ◌≡◌, ◌<◌, ◌≤◌, ◌*◌, ◌/◌}
use Rattle.class_planes.specs.inner.Runs.{end_down}
use Rattle.class_planes.proofs.word_scans.Lanes.last_down.Given as goal

abbrev pub invariant-down : goal.invariant-down
invariant-down l =
    record {
      within : l.w ≤ l.fn.from / 64;
      none : (i : ℕ) → 64 * l.w ≤ i → i < l.fn.from → end_down l.self i ≡ 0;
    }

abbrev pub decreases-down : goal.decreases-down
decreases-down l = l.w
