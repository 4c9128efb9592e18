use Rattle.std.proofs.Common.{ℕ, take}
use Rattle.std.specs.Prelude.{All, IsTrue}
use Rattle.reach_sets.specs.inner.EndMarks.{is_marked}
use Rattle.reach_sets.specs.inner.Linked.{HasMarks, IsEnd}
use Rattle.reach_sets.proofs.linked.mark_ends.Given as goal

abbrev pub invariant-loop-link : goal.invariant-loop-link
invariant-loop-link l = record {
  all : All (HasMarks l.offsets l.words) (take l.link-index l.links);
  only : (k : ℕ) → IsTrue (is_marked l.words k) → IsEnd l.offsets l.links k;
}
