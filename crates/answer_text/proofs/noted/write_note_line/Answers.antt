use Rattle.std.specs.Prelude.{decimal}
use Rattle.std.proofs.lemmas.Result.{IfOk-equal}
use Rattle.answer_text.specs.Noted.{note_line, note_words}
use Rattle.answer_text.proofs.LineTexts.{reply_pieces}
use Rattle.answer_text.proofs.noted.write_note_line.Goals as goal

pub returns-clause-ok : goal.returns-clause-ok
unfolding note_line
returns-clause-ok c = IfOk-equal _ _ _ _ c.extend.ensures.ok
    (rw (c.in_ok-write_note_words.ensures.ok, c.in_ok-write_after.ensures.ok, c.in_ok-push_decimal.ensures.ok)
    (reply_pieces c.args.text.now (decimal c.args.caller) (decimal c.args.post) (note_words c.args.note.now)))
