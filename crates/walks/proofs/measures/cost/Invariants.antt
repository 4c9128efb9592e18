use Rattle.std.proofs.Common.{◌≡◌, ◌≤◌, ◌*◌, take}
use Rattle.nav_types.specs.Walks.{walk_cost}
use Rattle.walks.proofs.measures.cost.Given as goal

abbrev pub invariant-loop-dir : goal.invariant-loop-dir
invariant-loop-dir l = (l.total ≡ walk_cost (take l.dir-index l.walk)) × (l.total ≤ 92682 * l.dir-index)
