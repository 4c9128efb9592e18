use Rattle.std.proofs.Common.{ℕ, ◌≡◌, ◌≤◌, List, sum, sym, subst, ap, ◌∙◌, arith}
use Rattle.std.specs.Prelude.{All}
use Rattle.std.specs.Arc.{arc_value}
use Rattle.chunk_regions.specs.Labelling.{Labelling}
use Rattle.reach_sets.specs.declared.regions.RegionId.{RegionId}
use Rattle.reach_sets.specs.RegionOrder.{IsRegion}
use Rattle.reach_sets.specs.AreaNumbers.{AreaNumbers, AreAreas}
use Rattle.grid_versions.specs.inner.Tables.{label_counts}
use Rattle.grid_versions.proofs.BuildLemmas.{links_are, links_exist, regions_few, tables_few}
use Rattle.grid_versions.proofs.tables.areas.areas_of.Goals as goal

exist_here : (counts : List ℕ) (labels : List Labelling) (links : List (RegionId × RegionId)) → counts ≡ label_counts labels
    → All (λ link. IsRegion (label_counts labels) link.0 × IsRegion (label_counts labels) link.1) links → All (λ link. IsRegion counts link.0 × IsRegion counts link.1) links
exist_here counts labels links same exist =
    subst (λ (xs : List ℕ). All (λ (link : RegionId × RegionId). IsRegion xs link.0 × IsRegion xs link.1) links) (sym same) exist

-- no chunk has more regions than cells
most_here : (counts : List ℕ) (labels : List Labelling) → counts ≡ label_counts labels → All (λ count. count ≤ 9216) counts → All (λ count. count ≤ 9216) (label_counts labels)
most_here counts labels same most = subst (λ (xs : List ℕ). All (λ count. count ≤ 9216) xs) same most

pub all_links-requires-clause-east : goal.all_links-requires-clause-east
all_links-requires-clause-east c = omega (arith, c.requires.1.east_are.each)

pub all_links-requires-clause-north : goal.all_links-requires-clause-north
all_links-requires-clause-north c = omega (arith, c.requires.1.north_are.each)

pub build-requires-clause-exist : goal.build-requires-clause-exist
build-requires-clause-exist c =
    let sides = c.requires.1 in
    let labels = c.args.labels.now in
    let links = c.in_ok-links.links in
    exist_here c.as_slice.result.now labels links (c.as_slice.ensures.value ∙ c.in_ok-counts.ensures.value)
    (links_exist c.requires.0 c.args.size labels links sides.inside sides.labels_are
    (links_are c.requires.0 c.args.size c.args.east.now c.args.north.now links sides.inside sides.east_are sides.north_are c.in_ok-links.ensures))

pub build-requires-clause-few : goal.build-requires-clause-few
build-requires-clause-few c =
    let sides = c.requires.1 in
    let labels = c.args.labels.now in
    let most = most_here c.in_ok-counts.counts.items labels c.in_ok-counts.ensures.value c.in_ok-counts.ensures.most in
    omega (arith, regions_few c.requires.0 c.args.size labels sides.inside sides.labels_are most, ap (λ (xs : List ℕ). sum xs) (c.as_slice.ensures.value ∙ c.in_ok-counts.ensures.value))

pub returns-clause-few : goal.returns-clause-few
returns-clause-few c =
    let sides = c.requires.1 in
    let labels = c.args.labels.now in
    tables_few c.requires.0 c.args.size labels sides.inside sides.labels_are
    (most_here c.in_ok-counts.counts.items labels c.in_ok-counts.ensures.value c.in_ok-counts.ensures.most)
    c.args.east.now c.args.north.now (arc_value c.in_ok-new.field-0) sides.east_are sides.north_are

pub returns-clause-areas : goal.returns-clause-areas
returns-clause-areas c = λ passes sides.
    let labels = c.args.labels.now in
    let links = c.in_ok-links.links in
    record {
      labels_are = sides.labels_are;
      east_are = sides.east_are;
      north_are = sides.north_are;
      links = links;
      links_are = links_are passes c.args.size c.args.east.now c.args.north.now links sides.inside sides.east_are sides.north_are c.in_ok-links.ensures;
      areas_are = subst (λ (table : AreaNumbers). AreAreas (label_counts labels) links table) (sym c.in_ok-new.ensures.ok)
          (subst (λ (counts : List ℕ). AreAreas counts links c.in_ok-table.table) (c.as_slice.ensures.value ∙ c.in_ok-counts.ensures.value) c.in_ok-table.ensures.areas);
    }
