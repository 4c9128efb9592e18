use Rattle.std.proofs.Common.{◌∙◌, ℕ, length, ap, sym, subst, arith}
use Rattle.std.specs.Arc.{arc_value}
use Rattle.std.specs.List.{sum_by}
use Rattle.std.proofs.lemmas.List.{take_all}
use Rattle.nav_types.specs.Regions.{HasTallies}
use Rattle.grid_versions.specs.Passing.{passable_at}
use Rattle.grid_versions.specs.inner.Tables.{Tables, region_total, edge_total}
use Rattle.grid_versions.specs.Versions.{MapState, passes_of}
use Rattle.grid_versions.proofs.TallyLemmas.{all_tallies}
use Rattle.grid_versions.proofs.BuildLemmas.{sum_more}
use Rattle.grid_versions.proofs.VersionLemmas.{passable_within}
use Rattle.grid_versions.proofs.versions.Version.tallies.Goals as goal

pub loop-class-preserved : goal.loop-class-preserved
loop-class-preserved c =
    let tables = c.parts.inside.layers.tables in
    let class = c.loop-class.class in
    let found = c.at-tables.result.now in
    let count : Tables → ℕ = λ t. t.areas.count in
    let here = c.loop-class.invariant in
    let few_regions = here.few_regions in
    let few_edges = here.few_edges in
    let few_areas = here.few_areas in
    record {
      regions = omega (arith, here.regions, c.regions.ensures.total, (sum_more region_total tables class found c.at-tables.ensures).0);
      edges = omega (arith, here.edges, c.edges.ensures.total, (sum_more edge_total tables class found c.at-tables.ensures).0);
      areas = omega (arith, here.areas, c.areas.ensures, c.from.ensures, (sum_more count tables class found c.at-tables.ensures).0);
      few_regions = omega (arith, c.regions.ensures.few);
      few_edges = omega (arith, c.edges.ensures.few);
      few_areas = omega arith;
    }

pub returns : goal.returns
returns c =
    let map = arc_value c.parts.inside.map in
    let passes = passable_at map (arc_value c.parts.inside.shapes) in
    let tables = c.parts.inside.layers.tables in
    let tallies = c.loop-class.tallies in
    let here = c.loop-class.invariant in
    let count : Tables → ℕ = λ t. t.areas.count in
    let whole = take_all c.loop-class.class tables (omega arith) in
    let classes = length map.classes in
    let all = all_tallies classes passes map.size c.parts.inside.layers.tables (passable_within map (arc_value c.parts.inside.shapes)) c.parts.invariant.tables_are in
    subst (λ (s : MapState). HasTallies (length s.map.classes) (passes_of s) tallies.regions tallies.edges tallies.areas) (c.parts.view_is ∙ c.kept-parts.ensures)
    (subst (λ (n : ℕ). HasTallies classes passes n tallies.edges tallies.areas) (sym (here.regions ∙ ap (λ xs. sum_by region_total xs) whole))
    (subst (λ (n : ℕ). HasTallies classes passes (sum_by region_total c.parts.inside.layers.tables) n tallies.areas) (sym (here.edges ∙ ap (λ xs. sum_by edge_total xs) whole))
    (subst (λ (n : ℕ). HasTallies classes passes (sum_by region_total c.parts.inside.layers.tables) (sum_by edge_total c.parts.inside.layers.tables) n)
    (sym (here.areas ∙ ap (λ xs. sum_by count xs) whole)) all)))
