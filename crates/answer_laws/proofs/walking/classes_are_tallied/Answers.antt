use Rattle.answer_laws.proofs.Tallying.{tallies, relabelled}
use Rattle.answer_laws.proofs.walking.classes_are_tallied.Goals as goal

pub returns-clause-tallies : goal.returns-clause-tallies
returns-clause-tallies c = tallies

pub returns-clause-relabelled : goal.returns-clause-relabelled
returns-clause-relabelled c = relabelled
