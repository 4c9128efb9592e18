use Rattle.std.proofs.Common.{◌∙◌}
use Rattle.lane_rows.proofs.BlockLemmas.{read_whole, read_rest}
use Rattle.lane_rows.proofs.block_at.Goals as goal

pub returns-then-rest-ge-BLOCK : goal.returns-then-rest-ge-BLOCK
returns-then-rest-ge-BLOCK c = read_whole 64 c.args.start c.args.row.now c.if-rest-ge-BLOCK.true

pub returns : goal.returns
returns c = c.copy_front.ensures ∙ read_rest 64 c.args.start c.args.row.now c.if-rest-ge-BLOCK.false
