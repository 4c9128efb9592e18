use Rattle.std.proofs.Common.{IsTrue}
use Rattle.nav_types.specs.declared.cells.Cell.{Cell}
use Rattle.nav_types.proofs.Counting.{Counts-unique}
use Rattle.grid_versions.proofs.laws.one_number_of_cells.Goals as goal

pub returns : goal.returns
returns c = λ passes m n one two. Counts-unique (λ (cell : Cell). IsTrue (passes cell)) m n one two
