use Rattle.pathserve.proofs.OneText as law
use Rattle.pathserve.proofs.laws.one_out.Goals as goal

pub returns : goal.returns
returns c = law.one_out
