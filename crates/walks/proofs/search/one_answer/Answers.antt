use Rattle.walks.proofs.OneAnswer as law
use Rattle.walks.proofs.search.one_answer.Goals as goal

pub returns : goal.returns
returns c = law.one_answer
