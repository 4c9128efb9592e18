use Rattle.line_smooth.proofs.BestPlaces.{one_smoothing}
use Rattle.line_smooth.proofs.laws.one_smoothed.Goals as goal

pub returns : goal.returns
returns c = one_smoothing
