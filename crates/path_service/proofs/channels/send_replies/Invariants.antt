use Rattle.path_service.proofs.LaneSteps.{Sent}
use Rattle.path_service.proofs.channels.send_replies.Given as goal

abbrev pub invariant-loop-reply : goal.invariant-loop-reply
invariant-loop-reply g l = Sent l.fn.lane l.lane l.replies l.reply-index
