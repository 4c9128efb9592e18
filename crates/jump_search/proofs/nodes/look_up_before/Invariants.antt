use Rattle.jump_search.specs.inner.Numbered.{IsSearchable}
use Rattle.jump_search.proofs.nodes.look_up_before.Given as goal

abbrev pub invariant-walk : goal.invariant-walk
invariant-walk l = IsSearchable l.list.items l.links.items l.state l.after

abbrev pub decreases-walk : goal.decreases-walk
decreases-walk l = l.after
