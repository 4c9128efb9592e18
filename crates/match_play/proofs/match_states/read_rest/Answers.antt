use Rattle.std.proofs.Common.{◌<◌, [], length, refl, sym, subst, ◌∙◌}
use Rattle.script_text.specs.Reader.{Held}
use Rattle.match_play.specs.declared.states.NextItem.TheVariants as next_item
use Rattle.match_play.proofs.Playing.{with_script, with_ahead, plays_none, plays_then, stop_answer}
use Rattle.match_play.proofs.Finishing.{rest_item, rest_whole, rest_stop, rest_kept, finish_nothing, finish_whole, finish_stop, stop_over}
use Rattle.match_play.proofs.LastItems.{last_lines, lines_last, item_last, rest_next, rest_stays, rest_shorter}
use Rattle.match_play.proofs.Stopping.{holds_stop, tells_why}
use Rattle.match_play.proofs.match_states.read_rest.Goals as goal

pub items-init : goal.items-init
items-init g c = record { plays = plays_none c.args.match_state.now []; takes = c.requires.takes; fit = c.requires.fit; going = c.requires.going; ended = c.requires.ended }

pub returns-in-Err-clause-plays : goal.returns-in-Err-clause-plays
returns-in-Err-clause-plays g c =
    let a = c.args.match_state.now in
    let m = c.tell_item.new.match_state in
    finish_nothing a m (plays_then a c.items.match_state m [] [] [] c.items.invariant.plays (c.tell_item.ensures.plays []))

pub items-smaller : goal.items-smaller
items-smaller g c =
    let told = rw c.in-Ok-Some.field-0-is at c.in-Ok-Some.ensures.told in
    let m = c.tell_item.new.match_state in
    let new = c.finish.new.self in
    subst (λ (h : Held). length new.bytes < length h.bytes) c.tell_item.ensures.script (rest_shorter m.script new c.in-Ok-Some.item told)

pub items-preserved : goal.items-preserved
items-preserved g c =
    let a = c.args.match_state.now in
    let m = c.tell_item.new.match_state in
    let new = c.finish.new.self in
    let i = c.in-Ok-Some.item in
    let at = c.in-Ok.ensures.told in
    let told = rw c.in-Ok-Some.field-0-is at c.in-Ok-Some.ensures.told in
    let rules = rw c.in-Ok-Some.field-0-is at c.in-Ok-Some.ensures.rules in
    let ended = c.tell_item.ensures.ended ∙ c.items.invariant.ended in
    let here = plays_then a c.items.match_state m [] [] [] c.items.invariant.plays (c.tell_item.ensures.plays []) in
    let last = last_lines m ended at c.tell_item.ensures.fit in
    record {
      plays = plays_then a m (with_ahead m new (next_item.Item i)) [] [] [] here (rest_item m new i ended at told);
      takes = c.tell_item.ensures.takes;
      fit = item_last m new i ended (rest_next m.progress m.script new i last told rules c.in-Ok-Some.ensures.failed);
      going = tt;
      ended = ended;
    }

pub returns-in-Ok-None-clause-plays : goal.returns-in-Ok-None-clause-plays
returns-in-Ok-None-clause-plays g c =
    let a = c.args.match_state.now in
    let m = c.tell_item.new.match_state in
    let new = c.finish.new.self in
    let at = c.in-Ok.ensures.told in
    let told = rw c.in-Ok-None.field-0-is at c.in-Ok-None.ensures.told in
    let ended = c.tell_item.ensures.ended ∙ c.items.invariant.ended in
    let here = plays_then a c.items.match_state m [] [] [] c.items.invariant.plays (c.tell_item.ensures.plays []) in
    finish_whole a (with_ahead m new next_item.Whole) (plays_then a m (with_ahead m new next_item.Whole) [] [] [] here (rest_whole m new ended at told)) ended refl

pub returns-in-Some-clause-plays : goal.returns-in-Some-clause-plays
returns-in-Some-clause-plays g c =
    let a = c.args.match_state.now in
    let m = c.tell_item.new.match_state in
    let new = c.finish.new.self in
    let stop = c.in-Some.stop in
    let at = c.in-Ok.ensures.told in
    let ended = c.tell_item.ensures.ended ∙ c.items.invariant.ended in
    let here = plays_then a c.items.match_state m [] [] [] c.items.invariant.plays (c.tell_item.ensures.plays []) in
    let b = with_ahead m new (next_item.Stop stop) in
    let t = c.tell_stop.new.match_state in
    let stops = plays_then a m b [] [] [] here (rest_stop m new c.in-Err-finish.fault stop ended at c.in-Err-finish.ensures.told (sym c.stop_in.ensures ∙ c.in-Some.is)) in
    finish_stop a t c.tell_stop.result (plays_then a b t [] [] [] stops (c.tell_stop.ensures.plays [])) (c.tell_stop.ensures.ended ∙ ended) c.tell_stop.ensures.stop

pub returns-in-Some-clause-answer : goal.returns-in-Some-clause-answer
returns-in-Some-clause-answer g c = λ is. stop_answer c.tell_stop.new.match_state.next_item c.tell_stop.result c.tell_stop.ensures.stop is

pub returns-in-Some-clause-told : goal.returns-in-Some-clause-told
returns-in-Some-clause-told g c = λ some. stop_over c.tell_stop.new.match_state.next_item c.tell_stop.result c.tell_stop.ensures.stop some

pub returns-in-None-clause-plays : goal.returns-in-None-clause-plays
returns-in-None-clause-plays g c =
    let a = c.args.match_state.now in
    let m = c.tell_item.new.match_state in
    let new = c.finish.new.self in
    let at = c.in-Ok.ensures.told in
    let ended = c.tell_item.ensures.ended ∙ c.items.invariant.ended in
    let here = plays_then a c.items.match_state m [] [] [] c.items.invariant.plays (c.tell_item.ensures.plays []) in
    finish_nothing a (with_script m new)
    (plays_then a m (with_script m new) [] [] [] here
    (rest_kept m new c.in-Err-finish.fault ended at c.in-Err-finish.ensures.told (sym c.stop_in.ensures ∙ c.in-None.is)))

pub returns-in-None-clause-fit : goal.returns-in-None-clause-fit
returns-in-None-clause-fit g c =
    let m = c.tell_item.new.match_state in
    let new = c.finish.new.self in
    let at = c.in-Ok.ensures.told in
    let ended = c.tell_item.ensures.ended ∙ c.items.invariant.ended in
    let last = last_lines m ended at c.tell_item.ensures.fit in
    let none = sym c.stop_in.ensures ∙ c.in-None.is in
    lines_last m new ended at (rest_stays m.progress m.script new c.in-Err-finish.fault last c.in-Err-finish.ensures.told none c.in-Err-finish.ensures.failed)

pub finish-requires : goal.finish-requires
finish-requires g c =
    let m = c.tell_item.new.match_state in
    record { going = (last_lines m (c.tell_item.ensures.ended ∙ c.items.invariant.ended) c.in-Ok.ensures.told c.tell_item.ensures.fit).going }

pub tell_stop-requires-clause-fit : goal.tell_stop-requires-clause-fit
tell_stop-requires-clause-fit g c =
    holds_stop c.finish.new.self c.in-Err-finish.fault c.in-Some.stop c.in-Err-finish.ensures.bad (sym c.stop_in.ensures ∙ c.in-Some.is)

pub returns-in-Some-clause-why : goal.returns-in-Some-clause-why
returns-in-Some-clause-why g c = tells_why c.tell_stop.new.match_state c.tell_stop.result c.tell_stop.ensures.stop c.tell_stop.ensures.fit
