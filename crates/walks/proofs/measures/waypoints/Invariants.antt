use Rattle.std.proofs.Common.{◌≡◌, ◌++◌, length}
use Rattle.walks.specs.Waypoints.{StaysInGrid, waypoints}
use Rattle.walks.proofs.measures.waypoints.Given as goal

abbrev pub invariant-loop-dir : goal.invariant-loop-dir
invariant-loop-dir l = (l.waypoints ++ waypoints l.cell l.rest ≡ waypoints l.fn.start l.fn.walk) × StaysInGrid l.cell l.rest

abbrev pub decreases-loop-dir : goal.decreases-loop-dir
decreases-loop-dir l = length l.rest
