use Rattle.std.proofs.Common.{append_assoc}
use Rattle.std.proofs.lemmas.Result.{IfOk-equal}
use Rattle.answer_text.specs.Answers.{turn_line}
use Rattle.answer_text.proofs.lines.write_turn_line.Goals as goal

pub returns-clause-ok : goal.returns-clause-ok
unfolding turn_line
returns-clause-ok c = IfOk-equal _ _ _ _ c.extend.ensures.ok
    (rw (c.in_ok-write_after-5.ensures.ok, c.from.ensures, c.in_ok-write_after-4.ensures.ok, c.in_ok-write_after-3.ensures.ok, c.in_ok-write_after-2.ensures.ok, c.in_ok-write_after.ensures.ok)
    (simp append_assoc))
