use Rattle.std.proofs.Common.{◌≡◌, ◌≤◌, ◌∙◌, get_or, ap, sym, subst}
use Rattle.nav_types.specs.Cells.{chunk_of}
use Rattle.reach_sets.specs.declared.regions.RegionId.{RegionId}
use Rattle.reach_sets.specs.AreaNumbers.{AreaNumbers}
use Rattle.grid_versions.specs.Chunks.{chunk_place}
use Rattle.grid_versions.specs.inner.Tables.{Tables, region_in}
use Rattle.grid_versions.proofs.RegionLemmas.{region_at_most}
use Rattle.grid_versions.proofs.tables.ClassTables.area.Goals as goal

pub area-requires-clause-region : goal.area-requires-clause-region
area-requires-clause-region c =
    let size = c.args.size in
    let tables = c.args.self.now in
    let most = region_at_most c.requires.tables.0 size tables c.requires.tables.1 c.args.cell c.requires.inside in
    let same : c.deref.result.now ≡ tables.areas = c.deref.ensures ∙ ap (λ (t : Tables). t.areas) c.self.view_is in
    subst (λ (id : RegionId). id.region ≤ get_or c.deref.result.now.regions id.chunk 0) (sym c.region.ensures)
    (subst (λ (areas : AreaNumbers). (region_in size tables c.args.cell).region ≤ get_or areas.regions (chunk_place size (chunk_of c.args.cell)) 0) (sym same) most)
