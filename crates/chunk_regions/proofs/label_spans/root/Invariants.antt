use Rattle.std.proofs.Common.{ℕ, ◌≡◌, ◌-◌, ◌≤◌, length}
use Rattle.std.specs.Prelude.{slice_index}
use Rattle.chunk_regions.specs.inner.Joining.{follow}
use Rattle.chunk_regions.proofs.label_spans.root.Given as goal

abbrev pub invariant-loop-next : goal.invariant-loop-next
invariant-loop-next l = record {
  some : 1 ≤ l.at;
  known : l.at ≤ length l.links;
  next : l.next ≡ slice_index l.links (l.at - 1);
  steps : ℕ;
  led : follow l.links steps l.region ≡ l.at;
}

abbrev pub decreases-loop-next : goal.decreases-loop-next
decreases-loop-next l = l.at
