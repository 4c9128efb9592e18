use Rattle.landmarks.proofs.Spanning as law
use Rattle.landmarks.proofs.laws.span_of_spans.Goals as goal

pub returns : goal.returns
returns c = law.span_of_spans
