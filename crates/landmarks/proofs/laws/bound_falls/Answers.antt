use Rattle.landmarks.proofs.Bounds as law
use Rattle.landmarks.proofs.laws.bound_falls.Goals as goal

pub returns : goal.returns
returns c = law.bound_falls
