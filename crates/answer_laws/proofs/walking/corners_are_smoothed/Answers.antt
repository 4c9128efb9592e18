use Rattle.answer_laws.proofs.Smoothing.{smoothing}
use Rattle.answer_laws.proofs.walking.corners_are_smoothed.Goals as goal

pub returns : goal.returns
returns c = smoothing
