use Rattle.std.proofs.Common.{◌≡◌, ◌*◌, ◌^◌, ◌≤◌, take}
use Rattle.std.specs.List.{sum_by}
use Rattle.grid_versions.specs.inner.Tables.{region_total, edge_total}
use Rattle.grid_versions.proofs.versions.Version.tallies.Given as goal

abbrev pub invariant-loop-class : goal.invariant-loop-class
invariant-loop-class l = record {
  regions : l.tallies.regions ≡ sum_by region_total (take l.class l.parts-inside.layers.tables);
  edges : l.tallies.edges ≡ sum_by edge_total (take l.class l.parts-inside.layers.tables);
  areas : l.tallies.areas ≡ sum_by (λ t. t.areas.count) (take l.class l.parts-inside.layers.tables);
  few_regions : l.tallies.regions ≤ 4460544 * l.class;
  few_edges : l.tallies.edges ≤ 2 ^ 37 * l.class;
  few_areas : l.tallies.areas ≤ 2 ^ 32 * l.class;
}
