use Rattle.std.proofs.Common.{arith}
use Rattle.grid_versions.proofs.tables.ClassTables.joined.Goals as goal

pub region_sum-regions-requires : goal.region_sum-regions-requires
region_sum-regions-requires c = omega (arith, c.in_ok-areas.ensures.few.regions)

pub edge_sum-requires : goal.edge_sum-requires
edge_sum-requires c = omega (arith, c.in_ok-areas.ensures.few.edges)

pub edge_sum-requires-2 : goal.edge_sum-requires-2
edge_sum-requires-2 c = omega (arith, c.in_ok-areas.ensures.few.edges)

pub overflow_add-edges : goal.overflow_add-edges
overflow_add-edges c = omega (arith, c.in_ok-areas.ensures.few.edges, c.edge_sum.ensures, c.edge_sum-2.ensures)

pub invariant_of-result : goal.invariant_of-result
invariant_of-result c = record {
  few = c.in_ok-areas.ensures.few;
  regions_are = c.region_sum-regions.ensures;
  edges_are = omega (arith, c.edge_sum.ensures, c.edge_sum-2.ensures);
}

pub returns : goal.returns
returns c = λ passes sides. c.in_ok-areas.ensures.areas passes sides
