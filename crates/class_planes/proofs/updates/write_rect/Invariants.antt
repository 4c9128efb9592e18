use Rattle.class_planes.proofs.ReadLemmas.{AreSet, AreKept}
use Rattle.class_planes.proofs.updates.write_rect.Given as goal

-- the rows before row n are written
abbrev pub invariant-loop-n : goal.invariant-loop-n
invariant-loop-n l = record {
  set : AreSet l.read l.words l.class l.first l.n l.band;
  kept : AreKept l.read l.words l.first l.n l.fn.band l.band;
}
