use Rattle.pathserve.proofs.OneText as law
use Rattle.pathserve.proofs.laws.beginning_is_prefix.Goals as goal

pub returns : goal.returns
returns c = law.beginning_is_prefix
