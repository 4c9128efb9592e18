use Rattle.lane_rows.proofs.SpanLemmas.{or_lanes}
use Rattle.lane_rows.proofs.or_block.Goals as goal

pub returns : goal.returns
returns c = or_lanes 16 c.args.mask c.args.block.now c.requires
