use Rattle.std.proofs.Common.{◌≡◌, ◌+◌, ◌<◌, List, length, drop, get_or, refl, ap, subst, arith}
use Rattle.std.proofs.lemmas.Result.{err_from_is_err_and}
use Rattle.posts.specs.declared.posts.Post.{Post}
use Rattle.script_text.specs.Canon.{canon_map, canon_journal}
use Rattle.script_text.specs.ReadsBack.{canon_script, canon_turns}
use Rattle.pathserve.proofs.Writes.{nothing_written}
use Rattle.pathserve.proofs.WrittenTexts.{next_lines, no_lines, text_refused, text_written, whole_written}
use Rattle.pathserve.proofs.serving.write_script.Goals as goal

-- the map was not written, or not whole
pub returns-in_err-write_text-clause-written : goal.returns-in_err-write_text-clause-written
returns-in_err-write_text-clause-written g c =
    let kept = g.K.Sink.kept in
    let m = c.args.closed.now.map in
    let journal = c.args.closed.now.journal in
    let text = rw c.map-map.ensures at c.write_map.ensures.text in
    let p = err_from_is_err_and c.from_residual.result c.from_residual.ensures.1 in
    rw p.1
    (text_refused (kept c.args.sink.now) (kept c.args.sink.now) (kept c.write_text.new.sink) (canon_script m journal) (canon_script m journal)
    (canon_map m) (canon_turns m 1 journal) c.write_map.result c.in_err-write_text.field-0.0
    (nothing_written (kept c.args.sink.now) (canon_script m journal)) refl text c.in_err-write_text.ensures.written)

pub loop-turn-init : goal.loop-turn-init
loop-turn-init g c =
    let kept = g.K.Sink.kept in
    let m = c.args.closed.now.map in
    let journal = c.args.closed.now.journal in
    let text = rw c.map-map.ensures at c.write_map.ensures.text in
    record {
      number = refl;
      written = text_written (kept c.args.sink.now) (kept c.args.sink.now) (kept c.write_text.new.sink) (canon_script m journal) (canon_script m journal)
          (canon_map m) (canon_turns m 1 journal) c.write_map.result tt
          (nothing_written (kept c.args.sink.now) (canon_script m journal)) refl text c.in_ok-write_text.ensures.written;
      later = c.write_text.ensures.later;
    }

-- the text of the turn was not written, or not whole
pub returns-in_err-write_text-2-clause-written : goal.returns-in_err-write_text-2-clause-written
returns-in_err-write_text-2-clause-written g c =
    let kept = g.K.Sink.kept in
    let m = c.args.closed.now.map in
    let journal = c.args.closed.now.journal in
    let i = c.loop-turn.turn-index in
    let turn = c.turn-item.result in
    let number = c.loop-turn.number + 1 in
    let whole : c.as_slice-turn-items.result.now ≡ journal = cc in
    let below : i < length journal = subst (λ (l : List (List (List Post))). i < length l) whole c.loop-turn-test.true in
    let is : turn ≡ get_or journal i turn = subst (λ (l : List (List (List Post))). turn ≡ get_or l i turn) whole c.turn-item.is in
    let count : number ≡ i + 1 = omega (arith, c.loop-turn.invariant.number) in
    let text = rw c.map-map.ensures at c.write_journal.ensures.text in
    let p = err_from_is_err_and c.from_residual-in_err-write_text-2.result c.from_residual-in_err-write_text-2.ensures.1 in
    rw p.1
    (text_refused (kept c.args.sink.now) (kept c.loop-turn.sink) (kept c.write_text-in-loop-turn.new.sink) (canon_script m journal) (canon_turns m (i + 1) (drop i journal))
    (canon_journal m number turn) (canon_turns m ((i + 1) + 1) (drop (i + 1) journal)) c.write_journal.result c.in_err-write_text-2.field-0.0
    c.loop-turn.invariant.written (next_lines m journal i number turn below is count) text c.in_err-write_text-2.ensures.written)

pub loop-turn-preserved : goal.loop-turn-preserved
loop-turn-preserved g c =
    let kept = g.K.Sink.kept in
    let m = c.args.closed.now.map in
    let journal = c.args.closed.now.journal in
    let i = c.loop-turn.turn-index in
    let turn = c.turn-item.result in
    let number = c.loop-turn.number + 1 in
    let whole : c.as_slice-turn-items.result.now ≡ journal = cc in
    let below : i < length journal = subst (λ (l : List (List (List Post))). i < length l) whole c.loop-turn-test.true in
    let is : turn ≡ get_or journal i turn = subst (λ (l : List (List (List Post))). turn ≡ get_or l i turn) whole c.turn-item.is in
    let count : number ≡ i + 1 = omega (arith, c.loop-turn.invariant.number) in
    let text = rw c.map-map.ensures at c.write_journal.ensures.text in
    record {
      number = count;
      written = text_written (kept c.args.sink.now) (kept c.loop-turn.sink) (kept c.write_text-in-loop-turn.new.sink) (canon_script m journal) (canon_turns m (i + 1) (drop i journal))
          (canon_journal m number turn) (canon_turns m ((i + 1) + 1) (drop (i + 1) journal)) c.write_journal.result tt
          c.loop-turn.invariant.written (next_lines m journal i number turn below is count) text c.in_ok-write_text-2.ensures.written;
      later = omega (arith, c.loop-turn.invariant.later, c.write_text-in-loop-turn.ensures.later);
    }

pub returns-clause-written : goal.returns-clause-written
returns-clause-written g c =
    let kept = g.K.Sink.kept in
    let m = c.args.closed.now.map in
    let journal = c.args.closed.now.journal in
    let i = c.loop-turn.turn-index in
    let whole : c.as_slice-turn-items.result.now ≡ journal = cc in
    whole_written (kept c.args.sink.now) (kept c.loop-turn.sink) (canon_script m journal) (canon_turns m (i + 1) (drop i journal)) c.loop-turn.invariant.written
    (no_lines m journal i (omega (arith, c.loop-turn-test.false, ap length whole)))
