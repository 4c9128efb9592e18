use Rattle.std.proofs.Common.{◌≡◌, ◌-◌, ◌∙◌, ℕ, ap, sym, subst, get_or}
use Rattle.nav_types.specs.declared.cells.Rect.{Rect}
use Rattle.nav_types.specs.Cells.{cell_at, IsInRect}
use Rattle.nav_types.specs.Numbering.{Numbering}
use Rattle.navcell_grid.specs.Grids.{number_at}
use Rattle.navcell_grid.proofs.PatchLemmas.{number_old, local-inside}
use Rattle.navcell_grid.proofs.patches.Patch.row.Goals as goal

pub returns-clause-cells : goal.returns-clause-cells
returns-clause-cells c = λ cell inside row_is.
    let rect = c.self.inside.rect in let grid = c.self.inside.grid in
    let same_rect : rect ≡ c.args.self.now.rect = ap (λ (p : Numbering). p.rect) c.self.view_is in
    let in_rect : IsInRect rect cell = subst (λ (r : Rect). IsInRect r cell) (sym same_rect) inside in
    ap (λ (r : Rect). get_or c.row.result.now (cell.i - r.i0) 0) (sym same_rect)
    ∙ c.row.ensures.cells (cell.i - rect.i0) (local-inside rect grid cell c.self.invariant in_rect).column
    ∙ ap (λ (j : ℕ). number_at grid (cell_at (cell.i - rect.i0) (j - rect.j0))) (sym row_is)
    ∙ number_old rect grid c.args.self.now cell c.self.invariant.wide c.self.view_is
