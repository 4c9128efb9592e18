use Rattle.landmarks.proofs.Bounds as law
use Rattle.landmarks.proofs.laws.gentle_where_fewer_pass.Goals as goal

pub returns : goal.returns
returns c = law.gentle_where_fewer_pass
