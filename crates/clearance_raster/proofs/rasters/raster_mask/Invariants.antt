use Rattle.std.proofs.Common.{◌≡◌}
use Rattle.obstruction_shapes.specs.Blocking.{blocked}
use Rattle.clearance_raster.specs.inner.TestRasters.{IsRasterIn}
use Rattle.clearance_raster.proofs.Rastering.{RowsTest}
use Rattle.clearance_raster.proofs.rasters.raster_mask.Given as goal

-- the rows below row j are done
abbrev pub invariant-loop-j : goal.invariant-loop-j
invariant-loop-j g l = let rect_of = g.C.Canvas.rect_of in let number = g.C.Canvas.number in record {
  extent : rect_of l.canvas ≡ rect_of l.fn.canvas;
  set : IsRasterIn (rect_of l.fn.canvas) l.part (RowsTest l.mask l.j (blocked l.shape l.fn.clearance)) (number l.fn.canvas) (number l.canvas);
}
