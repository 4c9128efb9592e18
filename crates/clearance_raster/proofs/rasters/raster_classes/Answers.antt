use Rattle.std.proofs.Common.{rules, arith, ◌∙◌, ◌+◌, ◌&&◌, ℕ, ap, subst, sym}
use Rattle.lane_rows.specs.Rows.{has_class}
use Rattle.clearance_raster.specs.Rasters.{blocks_class}
use Rattle.clearance_raster.specs.inner.TestRasters.{IsRasterIn}
use Rattle.clearance_raster.proofs.Rastering.{Numbers, part_moved}
use Rattle.clearance_raster.proofs.AlikeClasses.{AreDone, same_mask, more_done, done_more, done_kept, all_done}
use Rattle.clearance_raster.proofs.rasters.raster_classes.Goals.{then-is_left, else-is_left}
use Rattle.clearance_raster.proofs.rasters.raster_classes.Goals as goal

pub loop-number-preserved : goal.loop-number-preserved
loop-number-preserved g c =
    let number = g.C.Canvas.number in let rect_of = g.C.Canvas.rect_of in
    let rect = rect_of c.args.canvas.now in let part = c.args.part in
    let obstruction = c.args.obstruction.now in let classes = c.args.classes.now in
    let first = number c.args.canvas.now in
    elim c.if-is_left.branch [
      | then-is_left w ↦
          record {
            extent = ap rect_of w.canvas-is ∙ w.raster_mask.ensures.rect ∙ c.loop-number.invariant.extent;
            set = subst (λ (n : Numbers). IsRasterIn rect part (λ k cell. has_class k c.if-is_left.done && blocks_class obstruction classes k cell) first n)
                (sym (ap number w.canvas-is))
                (subst (λ (d : ℕ). IsRasterIn rect part (λ k cell. has_class k d && blocks_class obstruction classes k cell) first (number w.raster_mask.new.canvas)) (sym w.done-is)
                (more_done rect part obstruction classes w.clearance-clearance.result _ c.loop-number.done w.classes_with-alike.result _ first
                (number c.loop-number.canvas) (number w.raster_mask.new.canvas) (search rules) (search rules)
                (same_mask classes w.clearance-clearance.result _ obstruction.mask w.classes_with-alike.result (search rules) w.classes_with-alike.ensures) c.loop-number.invariant.set
                (part_moved _ rect part _ _ _ c.loop-number.invariant.extent w.raster_mask.ensures.set)));
            done = subst (λ (d : ℕ). AreDone obstruction.mask d (c.loop-number.number + 1)) (sym w.done-is)
                (done_more classes w.clearance-clearance.result obstruction.mask c.loop-number.done w.classes_with-alike.result c.loop-number.number
                c.loop-number.invariant.done
                (same_mask classes w.clearance-clearance.result _ obstruction.mask w.classes_with-alike.result (search rules) w.classes_with-alike.ensures) (rw c.new-class.ensures at (sym w.clearance-clearance.ensures.clearance)));
          }
      | else-is_left w ↦ record {
        extent = ap rect_of w.canvas-is ∙ c.loop-number.invariant.extent;
        set = subst (λ (n : Numbers). IsRasterIn rect part (λ k cell. has_class k c.if-is_left.done && blocks_class obstruction classes k cell) first n)
            (sym (ap number w.canvas-is))
            (subst (λ (d : ℕ). IsRasterIn rect part (λ k cell. has_class k d && blocks_class obstruction classes k cell) first (number c.loop-number.canvas)) (sym w.done-is)
            c.loop-number.invariant.set);
        done = subst (λ (d : ℕ). AreDone obstruction.mask d (c.loop-number.number + 1)) (sym w.done-is)
            (done_kept obstruction.mask c.loop-number.done c.loop-number.number c.loop-number.invariant.done
            (rw c.new-class.ensures at (sym c.is_left.ensures ∙ w.if-is_left.false)));
      }
    ]

pub returns-clause-set : goal.returns-clause-set
returns-clause-set g c =
    let number = g.C.Canvas.number in
    all_done (g.C.Canvas.rect_of c.args.canvas.now) c.args.part c.args.obstruction.now c.args.classes.now c.loop-number.done (number c.args.canvas.now)
    (number c.loop-number.canvas) (λ k low. c.loop-number.invariant.done k (omega arith)) c.loop-number.invariant.set
