use Rattle.std.proofs.Common.{◌≡◌, ◌≤◌, false, length}
use Rattle.jump_search.specs.inner.Underway.{Drops}
use Rattle.jump_search.proofs.frontier.Frontier.prune_dominated.Given as goal

abbrev pub invariant-walk : goal.invariant-walk
invariant-walk l = record {
  nodes : l.self.nodes ≡ l.initial.self.nodes;
  waiting : Drops false l.initial.self.nodes l.initial.self.waiting l.self.waiting;
  inside : l.after ≤ length l.self.nodes;
}

abbrev pub decreases-walk : goal.decreases-walk
decreases-walk l = l.after
