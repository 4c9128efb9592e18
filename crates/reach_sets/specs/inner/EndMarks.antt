-- Places that are marked, by the bits of words: 64 places a word.
use Rattle.std.specs.Prelude.{ℕ, zero, suc, Bool, ◌≡◌, ◌<◌, ◌+◌, ◌*◌, ◌/◌, ◌%◌, ◌==◌, List, length, slice_index, if◌then◌else◌}
use Rattle.std.specs.Int.{bit_at}

-- whether the place is marked
abbrev pub is_marked : List ℕ → ℕ → Bool
is_marked words k = bit_at (slice_index words (k / 64)) (k % 64) == 1

-- how many places before this one are marked
abbrev pub marked_before : List ℕ → ℕ → ℕ
marked_before words zero = 0
marked_before words (suc k) = marked_before words k + (if is_marked words k then 1 else 0)

-- for each word how many places are marked before its own
pub record AreCounts (words before : List ℕ) : Type 0 where
  pub each : length before ≡ length words
  pub counts : (w : ℕ) → w < length words → slice_index before w ≡ marked_before words (64 * w)
