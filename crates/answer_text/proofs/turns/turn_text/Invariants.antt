use Rattle.std.proofs.Common.{◌≡◌, ◌++◌, drop}
use Rattle.answer_text.specs.Answers.{turn_text, caller_lines}
use Rattle.answer_text.proofs.turns.turn_text.Given as goal

-- what is written, with the lines that are left, is the whole
abbrev pub invariant-loop-caller : goal.invariant-loop-caller
invariant-loop-caller l =
    l.text ++ caller_lines l.caller (drop l.caller l.replies.replies) ≡ turn_text l.turn l.replies
