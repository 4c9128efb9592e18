use Rattle.std.proofs.Common.{◌≡◌, ◌++◌, drop}
use Rattle.answer_text.specs.Noted.{noted_text, noted_callers}
use Rattle.answer_text.specs.Writing.{GrewFrom}
use Rattle.answer_text.proofs.noted.write_turn.Given as goal

-- what is written, with the lines that are left, is the whole
abbrev pub invariant-loop-caller : goal.invariant-loop-caller
invariant-loop-caller l = record {
  left : l.text ++ noted_callers l.caller (drop l.caller l.replies.replies) l.left ≡ l.fn.text ++ noted_text l.turn l.replies l.notes;
  grew : GrewFrom l.fn.text l.text;
}
