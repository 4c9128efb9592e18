use Rattle.std.proofs.Common.{◌≡◌, ◌+◌, ◌<◌, List, length, drop, get_or, refl, ap, subst, arith}
use Rattle.std.proofs.lemmas.Result.{err_from_is_err_and}
use Rattle.posts.specs.declared.replies.TurnReplies.{TurnReplies}
use Rattle.answer_text.specs.Answers.{turn_text}
use Rattle.pathserve.specs.Output.{turn_texts}
use Rattle.pathserve.proofs.Writes.{nothing_written}
use Rattle.pathserve.proofs.WrittenTexts.{next_text, no_text, text_refused, text_written, whole_written}
use Rattle.pathserve.proofs.serving.write_answers.Goals as goal

pub loop-told-init : goal.loop-told-init
loop-told-init g c = record {
  number = refl;
  written = nothing_written (g.K.Sink.kept c.args.sink.now) (turn_texts 1 c.args.closed.now.replies);
  later = omega arith;
}

-- the text of the turn was not written, or not whole
pub returns-in_err-write_text-clause-written : goal.returns-in_err-write_text-clause-written
returns-in_err-write_text-clause-written g c =
    let kept = g.K.Sink.kept in
    let all = c.args.closed.now.replies in
    let i = c.loop-told.told-index in
    let told = c.told-item.result in
    let number = c.loop-told.number + 1 in
    let whole : c.as_slice-told-items.result.now ≡ all = cc in
    let below : i < length all = subst (λ (l : List TurnReplies). i < length l) whole c.loop-told-test.true in
    let is : told ≡ get_or all i told = subst (λ (l : List TurnReplies). told ≡ get_or l i told) whole c.told-item.is in
    let count : number ≡ i + 1 = omega (arith, c.loop-told.invariant.number) in
    let p = err_from_is_err_and c.from_residual.result c.from_residual.ensures.1 in
    rw p.1
    (text_refused (kept c.args.sink.now) (kept c.loop-told.sink) (kept c.write_text.new.sink) (turn_texts 1 all) (turn_texts (i + 1) (drop i all))
    (turn_text number told) (turn_texts ((i + 1) + 1) (drop (i + 1) all)) c.turn_text.result c.in_err-write_text.field-0.0
    c.loop-told.invariant.written (next_text all i number told below is count) c.turn_text.ensures c.in_err-write_text.ensures.written)

pub loop-told-preserved : goal.loop-told-preserved
loop-told-preserved g c =
    let kept = g.K.Sink.kept in
    let all = c.args.closed.now.replies in
    let i = c.loop-told.told-index in
    let told = c.told-item.result in
    let number = c.loop-told.number + 1 in
    let whole : c.as_slice-told-items.result.now ≡ all = cc in
    let below : i < length all = subst (λ (l : List TurnReplies). i < length l) whole c.loop-told-test.true in
    let is : told ≡ get_or all i told = subst (λ (l : List TurnReplies). told ≡ get_or l i told) whole c.told-item.is in
    let count : number ≡ i + 1 = omega (arith, c.loop-told.invariant.number) in
    record {
      number = count;
      written = text_written (kept c.args.sink.now) (kept c.loop-told.sink) (kept c.write_text.new.sink) (turn_texts 1 all) (turn_texts (i + 1) (drop i all))
          (turn_text number told) (turn_texts ((i + 1) + 1) (drop (i + 1) all)) c.turn_text.result tt
          c.loop-told.invariant.written (next_text all i number told below is count) c.turn_text.ensures c.in_ok-write_text.ensures.written;
      later = omega (arith, c.loop-told.invariant.later, c.write_text.ensures.later);
    }

pub returns-clause-written : goal.returns-clause-written
returns-clause-written g c =
    let kept = g.K.Sink.kept in
    let all = c.args.closed.now.replies in
    let i = c.loop-told.told-index in
    let whole : c.as_slice-told-items.result.now ≡ all = cc in
    whole_written (kept c.args.sink.now) (kept c.loop-told.sink) (turn_texts 1 all) (turn_texts (i + 1) (drop i all)) c.loop-told.invariant.written
    (no_text all i (omega (arith, c.loop-told-test.false, ap length whole)))
