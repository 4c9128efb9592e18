use Rattle.std.specs.Prelude.{All}
use Rattle.class_planes.specs.inner.StopLines.{IsRectOf, map_lines}
use Rattle.class_planes.proofs.TightLemmas.{AreSameBut}
use Rattle.class_planes.proofs.tight_rects.tight_rects.Given as goal

abbrev pub invariant-loop-rect : goal.invariant-loop-rect
invariant-loop-rect l = record {
  inside : All (IsRectOf l.count l.lines.words) l.tight.items;
  same : AreSameBut l.count (map_lines l.before) (map_lines l.lines) l.rects l.rect-index l.tight.items;
}
