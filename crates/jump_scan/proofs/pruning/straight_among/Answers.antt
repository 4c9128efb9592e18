use Rattle.std.proofs.Common.{◌∙◌, sym}
use Rattle.jump_scan.proofs.Pruned.{kept_straight}
use Rattle.jump_scan.proofs.pruning.straight_among.Goals as goal

pub returns : goal.returns
returns c = λ passes cell here are.
    kept_straight passes cell c.args.arrived c.has-onward.result
    c.new-none.result c.with_where-ahead.result c.with_turns_among-left.result c.with_turns_among.result
    c.requires.straight here
    ((λ on. (are c.args.arrived).0 (sym c.has-onward.ensures ∙ on)), (λ free. c.has-onward.ensures ∙ (are c.args.arrived).1 free))
    c.new-none.ensures c.with_where-ahead.ensures
    (c.with_turns_among-left.ensures passes cell here are) (c.with_turns_among.ensures passes cell here are)
