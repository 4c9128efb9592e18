use Rattle.pathserve.proofs.OneText as law
use Rattle.pathserve.proofs.laws.taken_text.Goals as goal

pub returns-clause-one : goal.returns-clause-one
returns-clause-one c = law.one_taken_text

pub returns-clause-beginning : goal.returns-clause-beginning
returns-clause-beginning c = law.taken_is_beginning
