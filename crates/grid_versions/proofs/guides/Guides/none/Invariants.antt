use Rattle.std.proofs.Common.{◌≡◌, None, replicate}
use Rattle.grid_versions.proofs.guides.Guides.none.Given as goal

-- so many classes without tables are there
abbrev pub invariant-loop : goal.invariant-loop
invariant-loop l = l.classes ≡ replicate l.counter None
