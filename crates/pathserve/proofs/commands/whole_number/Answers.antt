use Rattle.std.proofs.Common.{arith}
use Rattle.pathserve.proofs.Seeds.{room}
use Rattle.pathserve.proofs.commands.whole_number.Goals as goal

pub overflow_mul-number : goal.overflow_mul-number
overflow_mul-number c = omega (arith, room c.loop-digit.digit-index c.loop-digit.number (omega arith) c.loop-digit.invariant.bound)

pub overflow_add-number : goal.overflow_add-number
overflow_add-number c = omega (arith, room c.loop-digit.digit-index c.loop-digit.number (omega arith) c.loop-digit.invariant.bound)
