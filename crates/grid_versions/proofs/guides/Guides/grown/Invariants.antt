use Rattle.grid_versions.specs.inner.Guiding.{AreAllGuides}
use Rattle.grid_versions.proofs.guides.Guides.grown.Given as goal

-- what was made last serves the map
abbrev pub invariant-loop : goal.invariant-loop
invariant-loop l = AreAllGuides l.bare.map l.guides
