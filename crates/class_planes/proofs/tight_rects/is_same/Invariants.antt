use Rattle.std.proofs.Common.{ℕ, ◌≡◌, ◌<◌, ◌≤◌, ◌/◌, get_or}
use Rattle.class_planes.specs.inner.Lines.{line_at}
use Rattle.class_planes.specs.inner.StopLines.{map_lines}
use Rattle.class_planes.proofs.tight_rects.is_same.Given as goal

-- the words before word w are as before
abbrev pub invariant-loop-w : goal.invariant-loop-w
invariant-loop-w l = (v : ℕ) → l.fn.rect.i0 / 64 ≤ v → v < l.w
    → get_or (line_at (map_lines l.before) l.n) v 0 ≡ get_or (line_at (map_lines l.lines) l.n) v 0
