-- Cells and chunks in flat form.
use Rattle.nav_types.specs.declared.cells.Cell.{Cell}
use Rattle.flat_posts.specs.declared.cells.FlatCell.{FlatCell}

-- the flat form of a cell
abbrev pub flat_cell : Cell → FlatCell
flat_cell cell = record { i = cell.i; j = cell.j }
