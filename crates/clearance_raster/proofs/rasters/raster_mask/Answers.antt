use Rattle.std.proofs.Common.{ℕ, Bool, ◌&&◌, ◌==◌, refl, sym, subst, ◌∙◌}
use Rattle.nav_types.specs.declared.cells.Cell.{Cell}
use Rattle.nav_types.specs.declared.cells.Rect.{Rect}
use Rattle.nav_types.specs.Rects.{IsPartOf}
use Rattle.lane_rows.specs.Rows.{has_class}
use Rattle.obstruction_shapes.specs.Blocking.{blocked}
use Rattle.clearance_raster.proofs.Rastering.{part_moved, rows_more, rows_none}
use Rattle.clearance_raster.proofs.rasters.raster_mask.Goals as goal

pub loop-j-init : goal.loop-j-init
loop-j-init g c =
    let canvas = c.args.canvas.now in
    record {
      extent = refl;
      set = rows_none (g.C.Canvas.rect_of canvas) c.args.part c.in-Some.rect c.args.mask
          (blocked c.args.shape.now c.args.clearance) (g.C.Canvas.number canvas) c.in-Some.ensures.blocked;
    }

pub raster_row-requires-clause-vector : goal.raster_row-requires-clause-vector
raster_row-requires-clause-vector g c = c.requires.fits.unit_vector

pub raster_row-requires-clause-part : goal.raster_row-requires-clause-part
raster_row-requires-clause-part g c =
    subst (λ (rect : Rect). IsPartOf rect c.args.part) (sym c.loop-j.invariant.extent) c.requires.part

pub raster_row-requires-clause-inside : goal.raster_row-requires-clause-inside
raster_row-requires-clause-inside g c = c.in-Some.ensures.part

pub raster_row-requires-clause-reached : goal.raster_row-requires-clause-reached
raster_row-requires-clause-reached g c = c.in-Some.ensures.blocked

pub loop-j-preserved : goal.loop-j-preserved
loop-j-preserved g c =
    let rect_of = g.C.Canvas.rect_of in
    let number = g.C.Canvas.number in
    let rect : Rect = rect_of c.args.canvas.now in
    let part : Rect = c.args.part in
    let mask : ℕ = c.args.mask in
    let j : ℕ = c.loop-j.j in
    let hit : Cell → Bool = blocked c.args.shape.now c.args.clearance in
    let before = c.loop-j.canvas in
    let after = c.raster_row.new.canvas in
    let invariant = c.loop-j.invariant in
    record {
      extent = c.raster_row.ensures.rect ∙ invariant.extent;
      set = rows_more rect part mask j hit (number c.args.canvas.now) (number before) (number after) invariant.set
          (part_moved (rect_of before) rect part (λ k cell. has_class k mask && cell.j == j && hit cell) (number before)
          (number after) invariant.extent c.raster_row.ensures.set);
    }
