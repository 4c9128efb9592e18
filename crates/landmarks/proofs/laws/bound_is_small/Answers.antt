use Rattle.landmarks.proofs.Bounds as law
use Rattle.landmarks.proofs.laws.bound_is_small.Goals as goal

pub returns : goal.returns
returns c = law.bound_is_small
