use Rattle.landmarks.specs.inner.Fields.{AreMarks}
use Rattle.landmarks.proofs.marks.mark_row.Given as goal

abbrev pub invariant-loop-i : goal.invariant-loop-i
invariant-loop-i g l = AreMarks (g.V.View.passes l.view l.class) (g.V.View.extent l.view) l.i l.j l.marks.items
