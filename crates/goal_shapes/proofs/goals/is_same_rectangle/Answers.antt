use Rattle.std.proofs.Common.{sym, ◌∙◌}
use Rattle.goal_shapes.proofs.SameRectangles.{same_rectangle, equal_numbers}
use Rattle.goal_shapes.proofs.goals.is_same_rectangle.Goals as goal

pub returns : goal.returns
returns c = (
  λ holds. same_rectangle c.args.one c.args.other (sym c.eq.ensures ∙ holds),
  λ same. c.eq.ensures ∙ equal_numbers c.args.one c.args.other same,
)
