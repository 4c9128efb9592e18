use Rattle.std.proofs.Common.{◌<◌, ◌⊎◌, ◌↔◌}
use Rattle.std.specs.Prelude.{Contains}
use Rattle.reach_sets.specs.declared.regions.RegionId.{RegionId}
use Rattle.grid_versions.specs.inner.Building.{IsSideLink}
use Rattle.grid_versions.proofs.tables.borders.push_side.Given as goal

abbrev pub invariant-loop-place : goal.invariant-loop-place
invariant-loop-place l = (link : RegionId × RegionId)
    → Contains l.links link ↔ (Contains l.initial.links link ⊎ ((link.0.chunk < l.place) × IsSideLink l.fn.size l.fn.side l.edges link))
