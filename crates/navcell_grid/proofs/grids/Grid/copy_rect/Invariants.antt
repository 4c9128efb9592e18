use Rattle.navcell_grid.specs.Grids.{number_at}
use Rattle.navcell_grid.proofs.RectLemmas.{IsWritten}
use Rattle.navcell_grid.proofs.grids.Grid.copy_rect.Given as goal

abbrev pub invariant-loop-j : goal.invariant-loop-j
invariant-loop-j l = IsWritten (number_at l.from) l.rect l.j l.fn.self l.self
