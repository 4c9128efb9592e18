use Rattle.std.proofs.Common.{◌≡◌, ◌++◌, drop}
use Rattle.answer_text.specs.Noted.{noted_lines, notes_left}
use Rattle.answer_text.specs.Writing.{GrewFrom}
use Rattle.answer_text.proofs.noted.write_noted.Given as goal

-- what is written, with the lines that are left, is the whole, and so it is with the notes
abbrev pub invariant-loop-post : goal.invariant-loop-post
invariant-loop-post l = record {
  text : l.text ++ noted_lines l.caller l.post (drop l.post l.replies) l.left ≡ l.initial.text ++ noted_lines l.caller 0 l.replies l.notes;
  left : notes_left (drop l.post l.replies) l.left ≡ notes_left l.replies l.notes;
  grew : GrewFrom l.initial.text l.text;
}
