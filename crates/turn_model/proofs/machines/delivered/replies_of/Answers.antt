use Rattle.turn_model.proofs.DeliveredReplies.{no_list}
use Rattle.std.proofs.Common.{sym}
use Rattle.turn_model.proofs.machines.delivered.replies_of.Goals as goal

pub returns-in-None : goal.returns-in-None
returns-in-None c = no_list c.args.turn.now.replies c.args.caller (sym c.in-None.ensures)
