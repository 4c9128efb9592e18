use Rattle.std.proofs.Common.{ℕ, ◌≡◌, ◌<◌, ◌*◌, ◌/◌}
use Rattle.class_planes.specs.inner.Runs.{end_up}
use Rattle.class_planes.proofs.word_scans.Lanes.next_up.Given as goal

abbrev pub invariant-loop-w : goal.invariant-loop-w
invariant-loop-w l =
    record {
      beyond : l.fn.from / 64 < l.w;
      none : (i : ℕ) → l.fn.from < i → i < 64 * l.w → end_up l.self i ≡ 0;
    }
