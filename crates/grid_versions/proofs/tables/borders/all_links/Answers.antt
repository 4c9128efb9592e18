use Rattle.std.proofs.Common.{◌∙◌}
use Rattle.reach_sets.specs.declared.regions.RegionId.{RegionId}
use Rattle.region_edges.specs.declared.neighbours.ChunkSide.TheVariants.{East, North}
use Rattle.grid_versions.specs.inner.Building.{IsSideLink}
use Rattle.grid_versions.proofs.BuildLemmas.{two_sides}
use Rattle.grid_versions.proofs.tables.borders.all_links.Goals as goal

pub returns : goal.returns
returns c =
    let size = c.args.size in
    two_sides c.from-links.result c.push_side.new.links c.push_side-2.new.links
    (λ (link : RegionId × RegionId). IsSideLink size East c.args.east.now link) (λ (link : RegionId × RegionId). IsSideLink size North c.args.north.now link)
    (c.from-links.ensures ∙ c.in_ok-with_capacity.ensures.items) c.in_ok-push_side.ensures c.in_ok-push_side-2.ensures
