use Rattle.script_text.proofs.GoalTable.{shape_pieces}
use Rattle.script_text.proofs.goals.push_shape.Goals as goal

pub returns-clause-text : goal.returns-clause-text
returns-clause-text c =
    rw (c.in_ok-push.ensures.ok, c.in_ok-push_decimals.ensures.text, c.in_ok-push_pieces.ensures.text)
    (shape_pieces c.args.text.now c.args.key c.args.numbers.now c.as_first_member.result.now c.as_first_member.ensures)
