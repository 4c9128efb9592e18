use Rattle.std.proofs.Common.{ℕ, ◌≡◌, ◌+◌, ◌<◌, ◌≤◌, IsTrue, IsFalse, ap, subst, arith}
use Rattle.nav_types.specs.declared.cells.Cell.{Cell}
use Rattle.nav_types.specs.declared.cells.Size.{Size}
use Rattle.nav_types.specs.Cells.{cell_at}
use Rattle.flow_field.specs.inner.Marks.{spot_of, IsCleared}
use Rattle.flow_field.proofs.Spots.{row_more as place_more}
use Rattle.flow_field.proofs.Fills.{row_more, place_of_first, cleared_more, none_between}
use Rattle.flow_field.proofs.filling.clear_row.Goals as goal

pub runs-preserved : goal.runs-preserved
runs-preserved g c =
    let size = g.M.View.extent c.args.map.now in
    let run = c.next_run-run.result in
    let row = c.spot-row.result in
    let passes = g.M.View.passes c.args.map.now c.args.class in
    let at = c.new-in-runs.ensures in
    let value : row ≡ spot_of size (cell_at 0 c.args.j) = place_of_first c.size-size.result size c.new.result c.args.j row c.size-size.ensures c.new.ensures c.spot-row.ensures.value in
    let Passable : Cell → Type 0 = λ cell. (k : ℕ) → cell.i ≤ k → k < run.from → IsTrue (passes (cell_at k cell.j)) in
    let Blocked : Cell → Type 0 = λ cell. (k : ℕ) → run.from ≤ k → k < run.end → IsFalse (passes (cell_at k cell.j)) in
    row_more passes size c.runs.i c.args.j run.from run.end row c.runs.marks.items c.clear_run.new.marks.items
    (g.met.M.View.within c.args.map.now c.args.class) value c.requires.row c.next_run-run.ensures.within
    (subst Passable at c.next_run-run.ensures.passable) (subst Blocked at c.next_run-run.ensures.blocked) c.clear_run.ensures c.runs.invariant

pub returns : goal.returns
returns g c =
    let size = g.M.View.extent c.args.map.now in
    let row = c.spot-row.result in
    let passes = g.M.View.passes c.args.map.now c.args.class in
    let new = c.clear_run-2.new.marks.items in
    let value : row ≡ spot_of size (cell_at 0 c.args.j) = place_of_first c.size-size.result size c.new.result c.args.j row c.size-size.ensures c.new.ensures c.spot-row.ensures.value in
    let wide : c.size-size.result.w ≡ size.w = ap (λ (s : Size). s.w) c.size-size.ensures in
    let from = row + c.size-size.result.w in
    let next : from + 2 ≡ spot_of size (cell_at 0 (c.args.j + 1)) = omega (arith, value, wide, place_more (c.args.j + 1) (size.w + 2)) in
    subst (λ (n : ℕ). IsCleared passes size n new) next
    (cleared_more passes size (row + c.runs.i) from (from + 2) c.runs.marks.items new
    (λ k above below. absurd (omega (arith, above, below, c.runs-test.false)))
    (λ k above below. none_between passes size c.args.j k (g.met.M.View.within c.args.map.now c.args.class) (omega (arith, above, value, wide)) (omega (arith, below, next)))
    c.clear_run-2.ensures c.runs.invariant)
