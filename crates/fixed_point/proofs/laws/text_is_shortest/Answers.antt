use Rattle.fixed_point.proofs.ReadsBack.{is_shortest}
use Rattle.fixed_point.proofs.laws.text_is_shortest.Goals as goal

pub returns : goal.returns
returns c = is_shortest
