use Rattle.navcell_grid.specs.Grids.{number_at}
use Rattle.navcell_grid.proofs.PatchLemmas.{IsCopied}
use Rattle.navcell_grid.proofs.patches.Patch.cut.Given as goal

abbrev pub invariant-loop-j : goal.invariant-loop-j
invariant-loop-j l = IsCopied (number_at l.from) l.rect l.j l.initial.patch l.patch
