use Rattle.match_laws.proofs.ShapePoints.{blocks_near}
use Rattle.match_laws.proofs.shapes.blocked_cells.Goals as goal

pub returns : goal.returns
returns c = blocks_near
