use Rattle.jump_search.proofs.Answering.{answer_of}
use Rattle.jump_search.proofs.search.found.Goals as goal

pub returns-clause-answer : goal.returns-clause-answer
returns-clause-answer c = λ all passes hit ahead able.
    let has = c.in_ok-waypoints.ensures all passes hit ahead able in
    answer_of all passes hit c.args.start ahead c.args.best.cell c.args.best.cost c.args.nodes.now able has.0 has.1.0
    c.in_ok-waypoints.waypoints has.1.1
