use Rattle.std.proofs.Common.{◌≡◌, ◌∙◌, ℕ, ap, sym, subst}
use Rattle.nav_types.specs.declared.cells.Size.{Size}
use Rattle.nav_types.specs.Regions.{HasArea}
use Rattle.reach_sets.specs.AreaNumbers.{area_of}
use Rattle.posts.specs.Maps.{Map}
use Rattle.grid_versions.specs.Versions.{passes_of}
use Rattle.grid_versions.specs.inner.Tables.{AreTables, region_in}
use Rattle.grid_versions.proofs.AreaLemmas.{has_area}
use Rattle.grid_versions.proofs.VersionLemmas.{passable_within}
use Rattle.grid_versions.proofs.versions.VersionAreas.area.Goals as goal

pub area-requires-clause-tables : goal.area-requires-clause-tables
area-requires-clause-tables c =
    let passes = passes_of c.args.self.now c.args.class in (
      passes,
      subst (λ (s : Size). AreTables passes s c.tables.result.now) (sym (c.size.ensures ∙ ap (λ (m : Map). m.size) c.map.ensures))
          c.tables.ensures,
    )

pub returns : goal.returns
returns c =
    let state = c.args.self.now in
    let passes = passes_of state c.args.class in
    let cell = c.args.cell in
    let found = c.tables.result.now in
    let area_is : c.area.result ≡ area_of found.areas (region_in state.map.size found cell) =
    c.area.ensures ∙ ap (λ (s : Size). area_of found.areas (region_in s found cell)) (c.size.ensures ∙ ap (λ (m : Map). m.size) c.map.ensures) in
    subst (λ (n : ℕ). HasArea passes cell n) (sym area_is)
    (has_area passes state.map.size found (passable_within state.map state.standing c.args.class) c.tables.ensures cell c.requires.inside)
