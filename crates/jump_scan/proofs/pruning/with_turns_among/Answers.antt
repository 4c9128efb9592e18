use Rattle.jump_scan.proofs.Gathering.{turns_added}
use Rattle.jump_scan.proofs.pruning.with_turns_among.Goals as goal

pub returns : goal.returns
returns c = λ passes cell here are.
    turns_added passes cell c.args.arrived c.ahead_to-ahead.result c.aside_to-aside.result c.args.side
    c.is_forced_among-forced.result c.is_legal_among-legal.result c.args.set c.with_where-turned.result c.with_where.result
    c.requires.straight here c.ahead_to-ahead.ensures c.aside_to-aside.ensures
    (c.is_forced_among-forced.ensures passes cell are) (c.is_legal_among-legal.ensures passes cell here are)
    c.with_where-turned.ensures c.with_where.ensures
