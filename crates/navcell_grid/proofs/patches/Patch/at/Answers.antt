use Rattle.std.proofs.Common.{◌∙◌, ap}
use Rattle.nav_types.specs.declared.cells.Cell.{Cell}
use Rattle.navcell_grid.specs.Grids.{number_at}
use Rattle.navcell_grid.proofs.PatchLemmas.{number_old}
use Rattle.navcell_grid.proofs.patches.Patch.at.Goals as goal

pub returns : goal.returns
returns c = c.get.ensures ∙ ap (λ (cell : Cell). number_at c.self.inside.grid cell) c.local.ensures
    ∙ number_old c.self.inside.rect c.self.inside.grid c.args.self.now c.args.cell c.self.invariant.wide c.self.view_is
