use Rattle.landmarks.proofs.Spanning as law
use Rattle.landmarks.proofs.laws.span_bound_of_spanned.Goals as goal

pub returns : goal.returns
returns c = law.span_bound_of_spanned
