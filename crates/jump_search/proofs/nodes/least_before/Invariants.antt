use Rattle.std.proofs.Common.{◌≤◌, length}
use Rattle.jump_search.specs.inner.Numbered.{IsAsCheap}
use Rattle.jump_search.proofs.nodes.least_before.Given as goal

abbrev pub invariant-walk : goal.invariant-walk
invariant-walk l = record {
  inside : l.after ≤ length l.list.items;
  cheap : IsAsCheap l.list.items l.cell l.least;
}

abbrev pub decreases-walk : goal.decreases-walk
decreases-walk l = l.after
