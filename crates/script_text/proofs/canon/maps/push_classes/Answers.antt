use Rattle.std.proofs.Common.{◌≡◌, Some}
use Rattle.class_config.specs.Classes.{name_at, clearance_at}
use Rattle.script_text.proofs.CanonTexts.{class-more}
use Rattle.script_text.proofs.canon.maps.push_classes.Goals as goal

pub loop-number-preserved : goal.loop-number-preserved
loop-number-preserved c =
    let i = c.loop-number.number in let classes = c.args.classes.now in
    let name : Some c.name.result.now ≡ name_at classes i = rw c.new-class.ensures at c.name.ensures in
    let clearance : Some c.clearance.result ≡ clearance_at classes i = rw c.new-class.ensures at c.clearance.ensures.clearance in
    class-more classes i c.name.result.now c.clearance.result c.loop-number.later _ _ _ _ name clearance c.in_ok-push_comma.ensures c.in_ok-push_class.ensures c.loop-number.invariant
