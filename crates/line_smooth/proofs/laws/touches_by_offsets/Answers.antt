use Rattle.line_smooth.proofs.Offsets as offsets
use Rattle.line_smooth.proofs.laws.touches_by_offsets.Goals as goal

pub returns : goal.returns
returns c = offsets.touches_by_offsets
