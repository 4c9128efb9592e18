use Rattle.std.proofs.Common.{◌≡◌, ℕ, ◌+◌, ◌*◌, ◌<◌, get_or}
use Rattle.std.specs.Int.{bit_at}
use Rattle.lane_rows.proofs.plane_words.Given as goal

abbrev pub invariant-loop-w : goal.invariant-loop-w
invariant-loop-w l = (i k : ℕ) → i < l.w → k < 64 → bit_at (get_or l.out i 0) k ≡ bit_at (get_or l.row (64 * i + k) 0) l.class
