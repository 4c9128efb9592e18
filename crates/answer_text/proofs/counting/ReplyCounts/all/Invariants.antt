use Rattle.std.proofs.Common.{◌≡◌, drop}
use Rattle.answer_text.specs.inner.Counting.{counts_of, together}
use Rattle.answer_text.specs.Summaries.{all_replies}
use Rattle.answer_text.proofs.counting.ReplyCounts.all.Given as goal

-- what is counted, with the turns that are left, is the whole
abbrev pub invariant-loop-turn : goal.invariant-loop-turn
invariant-loop-turn l = together l.counts (counts_of (all_replies (drop l.turn-index l.turns))) ≡ counts_of (all_replies l.turns)
