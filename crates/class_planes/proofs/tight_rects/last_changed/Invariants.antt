use Rattle.std.proofs.Common.{◌+◌, ◌≤◌}
use Rattle.class_planes.specs.inner.StopLines.{AreSameIn, map_lines}
use Rattle.class_planes.proofs.tight_rects.last_changed.Given as goal

-- the lines after line n are as before
abbrev pub invariant-lines : goal.invariant-lines
invariant-lines l = record {
  low : l.first ≤ l.n;
  high : l.n ≤ l.rect.j1;
  same : AreSameIn (map_lines l.before) (map_lines l.lines) l.rect (l.n + 1) (l.rect.j1 + 1);
}

abbrev pub decreases-lines : goal.decreases-lines
decreases-lines l = l.n
