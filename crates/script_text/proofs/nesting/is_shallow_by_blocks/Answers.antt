use Rattle.std.proofs.Common.{arith}
use Rattle.script_text.proofs.BlockLooks.{few_from}
use Rattle.script_text.proofs.nesting.is_shallow_by_blocks.Goals as goal

pub returns : goal.returns
returns c = λ shallow. c.sweep.invariant (few_from c.sweep.rest.now c.sweep.place.in_string c.sweep.place.depth (omega arith))
