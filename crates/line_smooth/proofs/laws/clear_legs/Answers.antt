use Rattle.line_smooth.proofs.Legs as legs
use Rattle.line_smooth.proofs.laws.clear_legs.Goals as goal

pub returns : goal.returns
returns c = legs.clear_legs
