use Rattle.pathserve_c.proofs.Sighted.{AreCopied}
use Rattle.pathserve_c.proofs.sights.write_cells.Given as goal

abbrev pub invariant-loop-at : goal.invariant-loop-at
invariant-loop-at l = AreCopied l.cells l.at l.fn.buffer l.buffer
