use Rattle.std.proofs.Common.{◌≡◌, ◌++◌, map, take}
use Rattle.grid_versions.specs.inner.Building.{link_between}
use Rattle.grid_versions.proofs.tables.borders.push_links.Given as goal

abbrev pub invariant-loop-edge : goal.invariant-loop-edge
invariant-loop-edge l = l.links ≡ l.initial.links ++ map (link_between l.here l.there) (take l.edge-index l.edges)
