use Rattle.std.proofs.Common.{◌≡◌, ◌≤◌, ◌<◌, ◌*◌, ℕ, length, get_or}
use Rattle.std.specs.Prelude.{vec_capacity}
use Rattle.reach_sets.specs.inner.EndMarks.{marked_before}
use Rattle.reach_sets.proofs.marks.counts_before.Given as goal

abbrev pub invariant-loop-word : goal.invariant-loop-word
invariant-loop-word l = record {
  each : length l.before.items ≡ l.word-index;
  room : length l.words ≤ vec_capacity l.before;
  now : l.count ≡ marked_before l.words (64 * l.word-index);
  counts : (k : ℕ) → k < length l.before.items → get_or l.before.items k 0 ≡ marked_before l.words (64 * k);
}
