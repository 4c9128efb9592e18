use Rattle.std.proofs.Common.{append_assoc}
use Rattle.std.proofs.lemmas.Result.{IfOk-equal}
use Rattle.answer_text.specs.Summaries.{last_line}
use Rattle.answer_text.proofs.summary.write_last.Goals as goal

pub returns : goal.returns
unfolding last_line
returns c = IfOk-equal _ _ _ _ c.extend.ensures.ok
    (rw (c.in_ok-write_after-3.ensures.ok, c.in_ok-write_after-2.ensures.ok, c.in_ok-write_after.ensures.ok) (simp append_assoc))
