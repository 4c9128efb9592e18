use Rattle.grid_versions.proofs.layers.Layers.build.Goals as goal

pub returns-clause-parts : goal.returns-clause-parts
returns-clause-parts g c = record {
  fit = c.requires;
  base_are = c.in_ok-cell_layer.ensures.base;
  reachers_are = c.in_ok-cell_layer.ensures.reachers;
  cells_are = c.in_ok-cell_layer.ensures.cells;
  planes_are = c.in_ok-planes.ensures;
  tables_are = c.in_ok-tables.ensures.tables;
  few = c.in_ok-tables.ensures.few;
}
