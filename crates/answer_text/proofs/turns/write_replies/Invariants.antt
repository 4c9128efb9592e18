use Rattle.std.proofs.Common.{◌≡◌, ◌++◌, drop}
use Rattle.answer_text.specs.Answers.{reply_lines}
use Rattle.answer_text.proofs.turns.write_replies.Given as goal

-- what is written, with the lines that are left, is the whole
abbrev pub invariant-loop-post : goal.invariant-loop-post
invariant-loop-post l =
    l.text ++ reply_lines l.caller l.post (drop l.post l.replies) ≡ l.initial.text ++ reply_lines l.caller 0 l.replies
