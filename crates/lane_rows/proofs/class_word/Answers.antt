use Rattle.lane_rows.proofs.BlockLemmas.{class_word_is}
use Rattle.lane_rows.proofs.class_word.Goals as goal

pub returns : goal.returns
returns c = class_word_is c.args.class c.args.block c.requires c.fits-block.0
