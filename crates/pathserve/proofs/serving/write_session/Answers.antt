use Rattle.std.proofs.Common.{refl}
use Rattle.std.proofs.lemmas.Result.{err_from_is_err_and}
use Rattle.script_text.specs.ReadsBack.{canon_script}
use Rattle.pathserve.specs.Output.{turn_texts}
use Rattle.pathserve.specs.Serving.{journal_text}
use Rattle.pathserve.proofs.Writes.{nothing_written}
use Rattle.pathserve.proofs.WrittenTexts.{last_written, piece_refused, piece_written}
use Rattle.pathserve.proofs.serving.write_session.Goals as goal

pub returns-in_err-write_script-clause-written : goal.returns-in_err-write_script-clause-written
returns-in_err-write_script-clause-written g c =
    let kept = g.K.Sink.kept in
    let closed = c.args.closed.now in
    let text = journal_text closed.map closed.journal closed.replies in
    let p = err_from_is_err_and c.from_residual.result c.from_residual.ensures.1 in
    rw p.1
    (piece_refused (kept c.args.sink.now) (kept c.args.sink.now) (kept c.write_script.new.sink) text text (canon_script closed.map closed.journal)
    (turn_texts 1 closed.replies) c.in_err-write_script.field-0.0 (nothing_written (kept c.args.sink.now) text) refl c.in_err-write_script.ensures.written)

pub returns-clause-written : goal.returns-clause-written
returns-clause-written g c =
    let kept = g.K.Sink.kept in
    let closed = c.args.closed.now in
    let text = journal_text closed.map closed.journal closed.replies in
    last_written (kept c.args.sink.now) (kept c.write_script.new.sink) (kept c.write_answers.new.sink) text (turn_texts 1 closed.replies) c.write_answers.result
    (piece_written (kept c.args.sink.now) (kept c.args.sink.now) (kept c.write_script.new.sink) text text (canon_script closed.map closed.journal)
    (turn_texts 1 closed.replies) (nothing_written (kept c.args.sink.now) text) refl c.in_ok-write_script.ensures.written)
    c.write_answers.ensures.written
