use Rattle.std.proofs.Common.{ℕ, ◌==◌, ◌<◌, ◌*◌, ◌/◌, IsFalse}
use Rattle.nav_types.specs.Lines.{is_sought}
use Rattle.class_planes.specs.inner.Runs.{bit_in}
use Rattle.class_planes.proofs.free_places.first_sought.Given as goal

abbrev pub invariant-loop-w : goal.invariant-loop-w
invariant-loop-w l =
    record {
      beyond : l.fn.from / 64 < l.w;
      none : (i : ℕ) → l.fn.from < i → i < 64 * l.w → IsFalse (is_sought l.fn.free (bit_in l.line i == 1));
    }
