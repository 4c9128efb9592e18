use Rattle.std.proofs.Common.{ℕ, ◌+◌, sym, subst}
use Rattle.nav_types.specs.Cells.{cell_at}
use Rattle.class_planes.specs.Planes.{is_passable}
use Rattle.class_planes.specs.inner.Runs.{LaneWords, AreLanesOf, bit_in, is_before}
use Rattle.class_planes.proofs.BesideLemmas.{three_told, all_beside}
use Rattle.class_planes.proofs.beside_cells.beside.Goals as goal

pub returns : goal.returns
returns c =
    let passes = is_passable c.args.plane.now in
    let cell = c.args.cell in
    let lanes = c.lanes.inside in
    let north = c.bits_about-north in let middle = c.bits_about-middle in let south = c.bits_about-south in
    let bits = subst (λ (l : LaneWords). AreLanesOf (λ (n k : ℕ). passes (cell_at k n)) cell.j l) (sym c.lanes.view_is)
    c.lanes_at-lanes.ensures.bits in
    all_beside passes cell north.result middle.result south.result c.of_rows.result
    (three_told (λ k. passes (cell_at k (cell.j + 1))) (bit_in lanes.left.now) cell.i _ _ _ bits.left
    north.ensures.before north.ensures.here north.ensures.after)
    (three_told (λ k. passes (cell_at k cell.j)) (bit_in lanes.mid.now) cell.i _ _ _ bits.mid
    middle.ensures.before middle.ensures.here middle.ensures.after)
    (three_told (is_before (λ (n k : ℕ). passes (cell_at k n)) cell.j) (bit_in lanes.right.now) cell.i _ _ _ bits.right
    south.ensures.before south.ensures.here south.ensures.after)
    c.of_rows.ensures
