use Rattle.match_play.proofs.Stopping.{one_cause}
use Rattle.match_play.proofs.laws.one_cause.Goals as goal

pub returns : goal.returns
returns c = one_cause
