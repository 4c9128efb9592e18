use Rattle.goal_shapes.specs.Goals.{contains}
use Rattle.goal_shapes.proofs.Middles.{is_held, circle_met, square_met}
use Rattle.goal_shapes.proofs.laws.middle_is_a_goal_cell.Goals as goal

pub returns-clause-point : goal.returns-clause-point
unfolding contains
returns-clause-point c = is_held

pub returns-clause-circle : goal.returns-clause-circle
unfolding contains
returns-clause-circle c = λ x z r cell well held. circle_met x z r cell held

pub returns-clause-square : goal.returns-clause-square
unfolding contains
returns-clause-square c = λ rectangle cell well held. square_met rectangle cell held
