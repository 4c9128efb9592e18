use Rattle.std.proofs.Common.{ℕ, ◌≡◌, ◌<◌, ◌≤◌, ◌+◌, ◌*◌, ◌/◌, ◌%◌, ◌⊎◌, get_or}
use Rattle.std.specs.Int.{bit_at}
use Rattle.class_planes.specs.inner.Reading.{band_bit}
use Rattle.class_planes.proofs.transposed.write_word.Given as goal

-- the word is written into the lines before line k of the 16
abbrev pub invariant-loop-k : goal.invariant-loop-k
invariant-loop-k l = record {
  set : (k j : ℕ) → l.fn.span.from ≤ k → k < l.k → j / 64 ≡ l.w
      → band_bit (l.height / 64 + 1) l.words (16 * l.half + k) j ≡ bit_at (get_or l.numbers (j % 64) 0) k;
  others : (m j : ℕ) → m < 32 → j / 64 < l.height / 64 + 1
      → (16 * l.half + l.fn.span.from ≤ m → m < 16 * l.half + l.k → j / 64 ≡ l.w → ⊥)
      → band_bit (l.height / 64 + 1) l.words m j ≡ band_bit (l.height / 64 + 1) l.fn.words m j;
  most : (l.k ≡ l.fn.span.from) ⊎ (l.k ≤ l.fn.span.to);
}
