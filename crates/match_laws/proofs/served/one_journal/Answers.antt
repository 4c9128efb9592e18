use Rattle.match_laws.proofs.ReplayedAnswers.{one_served}
use Rattle.match_laws.proofs.served.one_journal.Goals as goal

pub returns-clause-map : goal.returns-clause-map
returns-clause-map c a b out first second limits = (one_served a b out first second limits).0

pub returns-clause-journal : goal.returns-clause-journal
returns-clause-journal c a b out first second limits = (one_served a b out first second limits).1
