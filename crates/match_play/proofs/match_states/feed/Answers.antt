use Rattle.std.proofs.Common.{[], ◌∙◌}
use Rattle.match_play.proofs.Playing.{plays_stopped, plays_then, feed_told, feed_ended, stop_answer, only_ended}
use Rattle.match_play.proofs.Stopping.{tells_why}
use Rattle.match_play.proofs.match_states.feed.Goals as goal

pub returns-then-match_state-clause-plays : goal.returns-then-match_state-clause-plays
returns-then-match_state-clause-plays g c = feed_ended c.args.match_state.now c.args.bytes.now.now

pub returns-then-is_stopped-clause-plays : goal.returns-then-is_stopped-clause-plays
returns-then-is_stopped-clause-plays g c =
    let a = c.args.match_state.now in
    let t = c.tell_stop.new.match_state in
    let piece = c.args.bytes.now.now in
    let stopped = plays_stopped a piece c.if-match_state.false (c.is_stopped.ensures.0 c.if-is_stopped.true) in
    feed_told a t piece [] c.tell_stop.result (plays_then a a t piece [] [] stopped (c.tell_stop.ensures.plays [])) (c.tell_stop.ensures.ended ∙ c.if-match_state.false) c.tell_stop.ensures.stop

pub returns-then-is_stopped-clause-ended : goal.returns-then-is_stopped-clause-ended
returns-then-is_stopped-clause-ended g c =
    only_ended c.tell_stop.result c.args.match_state.now.ended c.if-match_state.false (stop_answer c.tell_stop.new.match_state.next_item c.tell_stop.result c.tell_stop.ensures.stop)

pub returns-then-is_stopped-clause-kept : goal.returns-then-is_stopped-clause-kept
returns-then-is_stopped-clause-kept g c = λ is. absurd (stop_answer c.tell_stop.new.match_state.next_item c.tell_stop.result c.tell_stop.ensures.stop is)

pub returns-clause-ended : goal.returns-clause-ended
returns-clause-ended g c = only_ended c.read_on.result c.args.match_state.now.ended c.if-match_state.false c.read_on.ensures.answer

pub returns-clause-kept : goal.returns-clause-kept
returns-clause-kept g c = λ is. absurd (c.read_on.ensures.answer is)

pub returns-then-is_stopped-clause-why : goal.returns-then-is_stopped-clause-why
returns-then-is_stopped-clause-why g c = tells_why c.tell_stop.new.match_state c.tell_stop.result c.tell_stop.ensures.stop c.tell_stop.ensures.fit
