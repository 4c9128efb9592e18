use Rattle.match_laws.proofs.ShapePoints.{square_no_nearer, square_nearest}
use Rattle.match_laws.proofs.shapes.square_remoteness.Goals as goal

pub returns-clause-no_nearer : goal.returns-clause-no_nearer
returns-clause-no_nearer c = square_no_nearer

pub returns-clause-nearest : goal.returns-clause-nearest
returns-clause-nearest c = square_nearest
