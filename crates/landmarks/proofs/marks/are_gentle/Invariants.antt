use Rattle.std.proofs.Common.{◌≡◌}
use Rattle.landmarks.specs.inner.Fields.{AreGentleBefore}
use Rattle.landmarks.proofs.marks.are_gentle.Given as goal

abbrev pub invariant-loop-at : goal.invariant-loop-at
invariant-loop-at l = l.most ≡ 0 → AreGentleBefore l.width l.from l.marks → AreGentleBefore l.width l.at l.marks
