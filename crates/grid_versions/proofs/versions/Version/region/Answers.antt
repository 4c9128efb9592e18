use Rattle.std.proofs.Common.{◌≡◌, ◌∙◌, ℕ, ap, sym, subst}
use Rattle.nav_types.specs.declared.cells.Size.{Size}
use Rattle.nav_types.specs.Cells.{chunk_of}
use Rattle.nav_types.specs.Regions.{HasRegion}
use Rattle.reach_sets.specs.declared.regions.RegionId.{RegionId}
use Rattle.posts.specs.Maps.{Map}
use Rattle.grid_versions.specs.Versions.{passes_of}
use Rattle.grid_versions.specs.inner.Tables.{AreTables, region_in}
use Rattle.grid_versions.proofs.RegionLemmas.{has_region}
use Rattle.grid_versions.proofs.versions.Version.region.Goals as goal

pub region-requires-clause-tables : goal.region-requires-clause-tables
region-requires-clause-tables c =
    let passes = passes_of c.args.self.now c.args.class in (
      passes,
      subst (λ (s : Size). AreTables passes s c.tables.result.now) (sym (c.size.ensures ∙ ap (λ (m : Map). m.size) c.map.ensures))
          c.tables.ensures,
    )

pub returns-clause-region : goal.returns-clause-region
returns-clause-region c =
    let state = c.args.self.now in
    let passes = passes_of state c.args.class in
    let cell = c.args.cell in
    let found = c.tables.result.now in
    let region_is : c.region.result ≡ region_in state.map.size found cell =
    c.region.ensures ∙ ap (λ (s : Size). region_in s found cell) (c.size.ensures ∙ ap (λ (m : Map). m.size) c.map.ensures) in
    subst (λ (n : ℕ). HasRegion passes (chunk_of cell) cell n) (sym (ap (λ (id : RegionId). id.region) region_is))
    (has_region passes state.map.size found c.tables.ensures cell c.requires.inside)
