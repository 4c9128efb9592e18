use Rattle.std.proofs.Common.{◌≡◌, length}
use Rattle.landmarks.specs.inner.Fields.{AreMarks}
use Rattle.landmarks.proofs.marks.mark_rows.Given as goal

abbrev pub invariant-loop-j : goal.invariant-loop-j
invariant-loop-j g l = AreMarks (g.V.View.passes l.view l.class) (g.V.View.extent l.view) 0 l.j l.marks.items
    × (length l.row.items ≡ (g.V.View.extent l.view).w)
