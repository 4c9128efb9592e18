use Rattle.std.proofs.Common.{◌≡◌, take}
use Rattle.path_service.specs.inner.Zips.{zipped}
use Rattle.path_service.specs.inner.Channels.{sends}
use Rattle.path_service.proofs.channels.send_all.Given as goal

abbrev pub invariant-loop-caller : goal.invariant-loop-caller
invariant-loop-caller g l = l.channels.items ≡ zipped sends l.fn.channels.items (take l.caller l.replies)
