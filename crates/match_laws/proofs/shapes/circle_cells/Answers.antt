use Rattle.match_laws.proofs.ShapePoints.{circle_points, inside_out_points}
use Rattle.match_laws.proofs.shapes.circle_cells.Goals as goal

pub returns-clause-circle : goal.returns-clause-circle
returns-clause-circle c = circle_points

pub returns-clause-inside_out : goal.returns-clause-inside_out
returns-clause-inside_out c = inside_out_points
