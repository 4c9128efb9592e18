use Rattle.std.proofs.Common.{ℕ, ◌≡◌, ◌<◌, ◌-◌, length}
use Rattle.class_planes.specs.inner.Reading.{AreOfRow}
use Rattle.class_planes.proofs.read_cells.read_rows.Given as goal

-- the rows before row j are read
abbrev pub invariant-loop-j : goal.invariant-loop-j
invariant-loop-j g l = record {
  long : length l.numbers ≡ length l.fn.numbers;
  each : (k : ℕ) → k < l.j - l.rect.j0 → AreOfRow (g.V.View.class_count l.view) (g.V.View.passes l.view) l.rect k l.numbers;
}
