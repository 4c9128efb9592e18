use Rattle.pathserve.proofs.SummaryTexts as summing
use Rattle.pathserve.proofs.laws.one_summary.Goals as goal

pub returns : goal.returns
returns c = summing.one_summary
