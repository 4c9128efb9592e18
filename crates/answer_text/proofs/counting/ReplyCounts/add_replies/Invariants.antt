use Rattle.std.proofs.Common.{◌≡◌, drop}
use Rattle.answer_text.specs.inner.Counting.{counts_of, together}
use Rattle.answer_text.proofs.counting.ReplyCounts.add_replies.Given as goal

-- what is counted, with the replies that are left, is the whole
abbrev pub invariant-loop-reply : goal.invariant-loop-reply
invariant-loop-reply l = together l.self (counts_of (drop l.reply-index l.replies)) ≡ together l.initial.self (counts_of l.replies)
