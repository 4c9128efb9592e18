use Rattle.navcell_grid.proofs.GridLemmas.{same_grid}
use Rattle.navcell_grid.proofs.grids.one_grid.Goals as goal

pub returns : goal.returns
returns c = same_grid
