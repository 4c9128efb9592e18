use Rattle.match_laws.proofs.ReplayedAnswers.{replayed}
use Rattle.match_laws.proofs.served.served_answers_are_replayed.Goals as goal

pub returns : goal.returns
returns c = replayed
