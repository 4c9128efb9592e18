use Rattle.std.proofs.Common.{ℕ, ◌≡◌, ◌<◌, ◌+◌, ◌*◌}
use Rattle.class_planes.specs.inner.Runs.{open_up}
use Rattle.class_planes.proofs.forced_places.next_up.Given as goal

abbrev pub invariant-loop-w : goal.invariant-loop-w
invariant-loop-w l =
    record {
      beyond : l.fn.first < l.w;
      none : (i : ℕ) → 64 * l.fn.first + 63 < i → i < 64 * l.w → open_up l.fn.left l.fn.right i ≡ 0;
    }
