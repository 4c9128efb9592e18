use Rattle.navcell_grid.proofs.RectLemmas.{IsWritten}
use Rattle.navcell_grid.proofs.grids.Grid.clear_rect.Given as goal

abbrev pub invariant-loop-j : goal.invariant-loop-j
invariant-loop-j l = IsWritten (λ _. 0) l.rect l.j l.fn.self l.self
