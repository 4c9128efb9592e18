use Rattle.std.proofs.Common.{ℕ, ◌<◌, ◌≤◌, ◌+◌, ◌*◌, ◌/◌}
use Rattle.class_planes.specs.inner.Reading.{IsColumnBit}
use Rattle.class_planes.specs.inner.StopLines.{map_lines}
use Rattle.class_planes.proofs.transposed.write_half.Given as goal

-- the words of the rectangle before word w are written
abbrev pub invariant-loop-w : goal.invariant-loop-w
invariant-loop-w l = record {
  set : (m j : ℕ) → 16 * l.half + l.span.from ≤ m → m < 16 * l.half + l.span.to → l.fn.rect.j0 / 64 ≤ j / 64 → j / 64 < l.w
      → IsColumnBit (record { size = l.map.size; rows = map_lines l.map.rows.now }) l.band l.words m j;
  kept : (m j : ℕ) → m < 32 → j / 64 < l.map.size.h / 64 + 1
      → IsColumnBit (record { size = l.map.size; rows = map_lines l.map.rows.now }) l.band l.fn.words m j
      → IsColumnBit (record { size = l.map.size; rows = map_lines l.map.rows.now }) l.band l.words m j;
}
