use Rattle.std.proofs.Common.{arith, ◌+◌, ℕ, subst, sym}
use Rattle.std.proofs.lemmas.Bool.{both_ways}
use Rattle.clearance_raster.proofs.AlikeClasses.{AreFound, found_more, found_kept, found_all}
use Rattle.clearance_raster.proofs.masks.classes_with.Goals.{then-is_alike, else-is_alike}
use Rattle.clearance_raster.proofs.masks.classes_with.Goals as goal

pub loop-number-preserved : goal.loop-number-preserved
loop-number-preserved c =
    let few = c.count-number-end.ensures.few.1 in
    elim c.if-is_alike.branch [
      | then-is_alike w ↦ subst (λ (f : ℕ). AreFound c.args.classes.now c.args.clearance c.args.mask f (c.loop-number.number + 1)) (sym w.found-is)
          (found_more c.args.classes.now c.args.clearance c.args.mask c.loop-number.found c.loop-number.number (omega arith) c.loop-number.invariant
          (rw c.new.ensures at (c.is_alike.ensures.0 w.if-is_alike.true)))
      | else-is_alike w ↦ subst (λ (f : ℕ). AreFound c.args.classes.now c.args.clearance c.args.mask f (c.loop-number.number + 1)) (sym w.found-is)
          (found_kept c.args.classes.now c.args.clearance c.args.mask c.loop-number.found c.loop-number.number c.loop-number.invariant
          (λ is. both_ways c.is_alike.result w.if-is_alike.false (c.is_alike.ensures.1 (rw c.new.ensures is))))
    ]

pub returns : goal.returns
returns c = found_all c.args.classes.now c.args.clearance c.args.mask c.loop-number.found c.loop-number.number (omega arith) c.loop-number.invariant
