use Rattle.jump_scan.proofs.Pruned.{parts_of_turn, kept_turns}
use Rattle.jump_scan.proofs.pruning.with_turns.Goals as goal

pub is_legal_between-legal-requires-clause-parts : goal.is_legal_between-legal-requires-clause-parts
is_legal_between-legal-requires-clause-parts g c =
    parts_of_turn (g.V.View.passes c.args.view.now c.args.class) c.args.arrival.cell c.args.arrival.dir c.ahead_to-ahead.result c.args.side c.args.onward
    c.requires.straight c.ahead_to-ahead.ensures (c.is_forced_to.ensures.0 c.if-not-is_forced_to.false).1 c.requires.onward

pub returns : goal.returns
returns g c =
    kept_turns (g.V.View.passes c.args.view.now c.args.class) c.args.arrival.cell c.args.arrival.dir c.ahead_to-ahead.result c.aside_to.result c.args.side
    c.is_legal_between-legal.result c.args.set c.with.result c.with_where.result c.requires.passable c.ahead_to-ahead.ensures c.aside_to.ensures
    (c.is_forced_to.ensures.0 c.if-not-is_forced_to.false) c.is_legal_between-legal.ensures c.with.ensures.added c.with.ensures.others
    c.with_where.ensures
