use Rattle.std.proofs.Common.{◌≡◌, ◌&&◌}
use Rattle.lane_rows.specs.Rows.{has_class}
use Rattle.clearance_raster.specs.Rasters.{blocks_class}
use Rattle.clearance_raster.specs.inner.TestRasters.{IsRasterIn}
use Rattle.clearance_raster.proofs.AlikeClasses.{AreDone}
use Rattle.clearance_raster.proofs.rasters.raster_classes.Given as goal

-- the classes that are done have their bits, and those below `number` are done
abbrev pub invariant-loop-number : goal.invariant-loop-number
invariant-loop-number g l = let rect_of = g.C.Canvas.rect_of in let number = g.C.Canvas.number in record {
  extent : rect_of l.canvas ≡ rect_of l.fn.canvas;
  set : IsRasterIn (rect_of l.fn.canvas) l.part (λ k cell. has_class k l.done && blocks_class l.obstruction l.classes k cell) (number l.fn.canvas) (number l.canvas);
  done : AreDone l.obstruction.mask l.done l.number;
}
