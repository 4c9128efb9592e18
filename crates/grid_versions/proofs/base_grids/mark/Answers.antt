use Rattle.std.proofs.Common.{◌+◌, ◌-◌, ◌<◌, ◌≤◌, inr, ⊎_elim, sym, subst, arith}
use Rattle.std.specs.Prelude.{IsTrue}
use Rattle.nav_types.specs.declared.cells.Size.{Size}
use Rattle.nav_types.specs.Cells.{IsInside, IsInRect}
use Rattle.lane_rows.specs.Rows.{has_class}
use Rattle.grid_versions.specs.inner.Marking.{IsMarked}
use Rattle.grid_versions.proofs.MarkLemmas.{two_rows}
use Rattle.grid_versions.proofs.base_grids.mark.Goals as goal

pub returns-clause-kept : goal.returns-clause-kept
returns-clause-kept c = λ k cell inside m.
    c.mark_row-2.ensures.kept k cell
    (subst (λ (s : Size). IsInside s cell) (sym c.mark_row.ensures.size) inside) (c.mark_row.ensures.kept k cell inside m)

pub returns-clause-marked : goal.returns-clause-marked
returns-clause-marked c = λ k cell set inside.
    let rect = c.args.rect in
    let south = inside.south in let north = inside.north in
    let least = c.requires.least in
    let columns = c.requires.inside.last_column in let east = inside.east in
    let lines = c.requires.inside.last_row in
    let in_map : IsInside c.args.grid.now.size cell = record { column = omega arith; row = omega arith } in
    ⊎_elim
    (λ (low : cell.j < rect.j0 + c.args.run).
    c.mark_row-2.ensures.kept k cell (subst (λ (s : Size). IsInside s cell) (sym c.mark_row.ensures.size) in_map)
    (c.mark_row.ensures.marked k cell set inside south low))
    (λ (high : rect.j1 + 1 - c.args.run ≤ cell.j).
    c.mark_row-2.ensures.marked k cell set inside high (omega arith))
    (two_rows rect c.args.run (rect.j1 + 1 - c.args.run) cell (omega arith) c.requires.most inside)

pub returns-clause-within : goal.returns-clause-within
returns-clause-within c = λ k cell inside m. ⊎_elim
    (λ (was : IsMarked c.mark_row.new.grid c.args.run k cell). c.mark_row.ensures.within k cell inside was)
    (λ (new : IsTrue (has_class k c.args.mask) × IsInRect c.args.rect cell). inr new)
    (c.mark_row-2.ensures.within k cell (subst (λ (s : Size). IsInside s cell) (sym c.mark_row.ensures.size) inside) m)
