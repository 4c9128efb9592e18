use Rattle.std.proofs.Common.{◌≤◌, length}
use Rattle.grid_versions.specs.inner.Marks.{AreNextFrom}
use Rattle.grid_versions.proofs.PassedLemmas.{NoneIn}
use Rattle.grid_versions.proofs.relabelling.next_places.Given as goal

-- the places from `place` on are done
abbrev pub invariant-places : goal.invariant-places
invariant-places l = record {
  low : l.place ≤ length l.bits;
  from : l.place ≤ l.found;
  none : NoneIn l.bits l.place l.found;
  next : AreNextFrom l.place l.bits l.next.items;
}

abbrev pub decreases-places : goal.decreases-places
decreases-places l = l.place
