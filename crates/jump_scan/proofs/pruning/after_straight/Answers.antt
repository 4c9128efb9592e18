use Rattle.jump_scan.proofs.Pruned.{kept_straight}
use Rattle.jump_scan.proofs.pruning.after_straight.Goals as goal

pub returns : goal.returns
returns g c = kept_straight (g.V.View.passes c.args.view.now c.args.class) c.args.cell c.args.arrived c.is_free_beside-onward.result
    c.new.result c.with_where-ahead.result c.with_turns-left.result c.with_turns.result
    c.requires.straight c.requires.passable c.is_free_beside-onward.ensures c.new.ensures
    c.with_where-ahead.ensures c.with_turns-left.ensures c.with_turns.ensures
