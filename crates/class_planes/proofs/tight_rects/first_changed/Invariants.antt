use Rattle.class_planes.specs.inner.StopLines.{AreSameIn, map_lines}
use Rattle.class_planes.proofs.tight_rects.first_changed.Given as goal

-- the lines before line n are as before
abbrev pub invariant-loop-n : goal.invariant-loop-n
invariant-loop-n l = AreSameIn (map_lines l.before) (map_lines l.lines) l.rect l.rect.j0 l.n
