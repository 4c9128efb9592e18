use Rattle.landmarks.proofs.Spanning as law
use Rattle.landmarks.proofs.laws.span_bound_falls.Goals as goal

pub returns : goal.returns
returns c = law.span_bound_falls
