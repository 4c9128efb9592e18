use Rattle.std.proofs.Common.{◌∙◌, ap, Ok, Err}
use Rattle.turn_core.proofs.FoundGoals.{plain_sound, plain_bad, plain_outside}
use Rattle.turn_core.proofs.named_goals.plain_goal.Goals as goal

pub returns-in-Ok-clause-found : goal.returns-in-Ok-clause-found
returns-in-Ok-clause-found c =
    let is = c.in-Ok.ensures.sound in
    ap Ok is.1 ∙ plain_sound c.args.size c.args.goal is.0

pub returns-in-Err-BadShape-clause-found : goal.returns-in-Err-BadShape-clause-found
returns-in-Err-BadShape-clause-found c = plain_bad c.args.size c.args.goal (c.in-Err-BadShape.ensures.bad_shape.0 (ap Err c.in-Err-BadShape.field-0-is))

pub returns-in-Err-GoalOutside-clause-found : goal.returns-in-Err-GoalOutside-clause-found
returns-in-Err-GoalOutside-clause-found c =
    let why = c.in-Err-GoalOutside.ensures.outside.0 (ap Err c.in-Err-GoalOutside.field-0-is) in
    plain_outside c.args.size c.args.goal why.0 why.1
