use Rattle.fixed_point.proofs.ReadsBack.{reads_back}
use Rattle.fixed_point.proofs.laws.text_reads_back.Goals as goal

pub returns : goal.returns
returns c = reads_back
