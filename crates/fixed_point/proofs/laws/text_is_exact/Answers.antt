use Rattle.fixed_point.proofs.ReadsBack.{is_exact}
use Rattle.fixed_point.proofs.laws.text_is_exact.Goals as goal

pub returns : goal.returns
returns c = is_exact
