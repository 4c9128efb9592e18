use Rattle.std.proofs.Common.{refl}
use Rattle.jump_search.proofs.Covering.{blank_but_covered}
use Rattle.jump_search.proofs.pages.blank_at.Goals as goal

pub loop-node-init : goal.loop-node-init
loop-node-init c = record {
  long = refl;
  blank = blank_but_covered c.args.numbers.now c.args.nodes.now c.requires.covered;
}
