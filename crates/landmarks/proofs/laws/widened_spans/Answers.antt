use Rattle.landmarks.proofs.Spanning as law
use Rattle.landmarks.proofs.laws.widened_spans.Goals as goal

pub returns : goal.returns
returns c = law.widened_spans
