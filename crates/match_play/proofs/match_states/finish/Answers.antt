use Rattle.std.proofs.Common.{[], true, refl}
use Rattle.match_play.specs.declared.states.MatchState.{MatchState}
use Rattle.match_play.proofs.Playing.{stop_answer, only_over}
use Rattle.match_play.proofs.Finishing.{plays_ended, finish_again, finish_then, finish_stop, stop_over}
use Rattle.match_play.proofs.LastItems.{fits_ended, going_on}
use Rattle.match_play.proofs.Stopping.{tells_why}
use Rattle.match_play.proofs.match_states.finish.Goals as goal

pub returns-then-is_over-clause-plays : goal.returns-then-is_over-clause-plays
returns-then-is_over-clause-plays g c = finish_again c.args.match_state.now (c.is_over.ensures.0 c.if-is_over.true)

pub returns-then-is_over-clause-ended : goal.returns-then-is_over-clause-ended
returns-then-is_over-clause-ended g c = (c.is_over.ensures.0 c.if-is_over.true).0

pub returns-then-is_over-clause-over : goal.returns-then-is_over-clause-over
returns-then-is_over-clause-over g c = λ some. c.is_over.ensures.0 c.if-is_over.true

pub returns-then-is_over-clause-again : goal.returns-then-is_over-clause-again
returns-then-is_over-clause-again g c = (λ is. c.is_over.ensures.0 c.if-is_over.true, λ over. refl)

pub returns-then-is_stopped-clause-plays : goal.returns-then-is_stopped-clause-plays
returns-then-is_stopped-clause-plays g c =
    let a = c.args.match_state.now in
    let b : MatchState = record a { ended = true } in
    let t = c.tell_stop.new.match_state in
    finish_then a b t c.tell_stop.result (plays_ended a) (finish_stop b t c.tell_stop.result (c.tell_stop.ensures.plays []) c.tell_stop.ensures.ended c.tell_stop.ensures.stop)

pub returns-then-is_stopped-clause-over : goal.returns-then-is_stopped-clause-over
returns-then-is_stopped-clause-over g c = λ some. (c.tell_stop.ensures.ended, stop_over c.tell_stop.new.match_state.next_item c.tell_stop.result c.tell_stop.ensures.stop some)

pub returns-then-is_stopped-clause-again : goal.returns-then-is_stopped-clause-again
returns-then-is_stopped-clause-again g c =
    only_over c.args.match_state.now c.tell_stop.result c.is_over.result c.is_over.ensures.1 c.if-is_over.false
    (stop_answer c.tell_stop.new.match_state.next_item c.tell_stop.result c.tell_stop.ensures.stop)

pub returns-then-is_stopped-clause-kept : goal.returns-then-is_stopped-clause-kept
returns-then-is_stopped-clause-kept g c = λ is. absurd (stop_answer c.tell_stop.new.match_state.next_item c.tell_stop.result c.tell_stop.ensures.stop is)

pub returns-clause-plays : goal.returns-clause-plays
returns-clause-plays g c =
    let a = c.args.match_state.now in
    let b : MatchState = record a { ended = true } in
    finish_then a b c.read_rest.new.match_state c.read_rest.result (plays_ended a) c.read_rest.ensures.plays

pub returns-clause-over : goal.returns-clause-over
returns-clause-over g c = λ some. (c.read_rest.ensures.ended, c.read_rest.ensures.told some)

pub returns-clause-again : goal.returns-clause-again
returns-clause-again g c = only_over c.args.match_state.now c.read_rest.result c.is_over.result c.is_over.ensures.1 c.if-is_over.false c.read_rest.ensures.answer

pub returns-clause-kept : goal.returns-clause-kept
returns-clause-kept g c = λ is. absurd (c.read_rest.ensures.answer is)

pub read_rest-requires-clause-fit : goal.read_rest-requires-clause-fit
read_rest-requires-clause-fit g c =
    let a = c.args.match_state.now in
    fits_ended a.ended a.progress a.script a.next_item c.requires.fit

pub read_rest-requires-clause-going : goal.read_rest-requires-clause-going
read_rest-requires-clause-going g c =
    let a = c.args.match_state.now in
    going_on a.ended a.progress a.script a.next_item c.requires.fit
    (λ stopped. let is = c.is_stopped.ensures.1 stopped in let none = c.if-is_stopped.false in absurd (cc))
    (λ ended told. let is = c.is_over.ensures.1 (ended, told) in let none = c.if-is_over.false in absurd (cc))

pub tell_stop-requires-clause-fit : goal.tell_stop-requires-clause-fit
tell_stop-requires-clause-fit g c =
    let a = c.args.match_state.now in
    fits_ended a.ended a.progress a.script a.next_item c.requires.fit

pub returns-then-is_stopped-clause-why : goal.returns-then-is_stopped-clause-why
returns-then-is_stopped-clause-why g c = tells_why c.tell_stop.new.match_state c.tell_stop.result c.tell_stop.ensures.stop c.tell_stop.ensures.fit
