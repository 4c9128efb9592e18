use Rattle.nav_types.specs.Numbering.{number_of}
use Rattle.navcell_grid.proofs.PatchLemmas.{IsCopied}
use Rattle.navcell_grid.proofs.patches.Patch.copy_rect.Given as goal

abbrev pub invariant-loop-j : goal.invariant-loop-j
invariant-loop-j l = IsCopied (number_of l.from) l.rect l.j l.fn.self l.self
