use Rattle.std.proofs.Common.{◌≤◌}
use Rattle.grid_versions.proofs.guides.Guides.guided.Given as goal

-- no more classes are counted than were looked at
abbrev pub invariant-loop-place : goal.invariant-loop-place
invariant-loop-place l = l.count ≤ l.place
