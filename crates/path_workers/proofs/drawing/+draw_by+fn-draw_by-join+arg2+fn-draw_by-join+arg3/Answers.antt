use Rattle.path_workers.proofs.Working.{both_worked}
use Rattle.path_workers.proofs.drawing.+draw_by+fn-draw_by-join+arg2+fn-draw_by-join+arg3.Goals as goal

pub returns : goal.returns
returns g t c =
    both_worked c.args.turn.now.version.now.map c.args.turn.now.version.now.standing c.args.turn.now.report c.args.turn.now.jobs.now c.args.turn.now.order.now c.args.turn.now.claims.now c.args.seat c.split-one.result.0 c.split-one.result.1
    c.join.result c.join-first.result.0 c.join-first.result.1 c.both.result _ c.split-one.ensures.first c.split-one.ensures.second
    c.join-first.ensures.first c.join-first.ensures.second c.requires.own
    c.join.ensures.board c.join.ensures.share c.join.ensures.list c.join.ensures.ended c.both.ensures
