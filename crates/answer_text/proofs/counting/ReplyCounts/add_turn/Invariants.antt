use Rattle.std.proofs.Common.{◌≡◌, drop}
use Rattle.answer_text.specs.inner.Counting.{counts_of, together}
use Rattle.answer_text.specs.Summaries.{turn_replies}
use Rattle.answer_text.proofs.counting.ReplyCounts.add_turn.Given as goal

-- what is counted, with the callers that are left, is the whole
abbrev pub invariant-loop-replies : goal.invariant-loop-replies
invariant-loop-replies l =
    together l.self (counts_of (turn_replies (drop l.replies-index l.callers))) ≡ together l.initial.self (counts_of (turn_replies l.callers))
