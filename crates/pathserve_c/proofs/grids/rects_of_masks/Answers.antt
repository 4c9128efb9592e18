use Rattle.std.proofs.Common.{arith}
use Rattle.pathserve_c.proofs.MaskRows.{rows_step}
use Rattle.pathserve_c.proofs.grids.rects_of_masks.Goals as goal

pub rows-preserved : goal.rows-preserved
rows-preserved c = (
  c.in_ok-push_row.ensures.inside,
  omega (arith, c.rows-test.true),
  λ k cell. rows_step c.args.size c.rows.j c.args.masks.now c.from.result c.from-width.result _ _ k cell c.from.ensures c.from-width.ensures
      (c.rows.invariant.2 k cell) (c.in_ok-push_row.ensures.row k cell),
)
