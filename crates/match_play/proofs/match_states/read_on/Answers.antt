use Rattle.std.proofs.Common.{◌+◌, ◌<◌, [], length, sym, ap, subst, ◌∙◌}
use Rattle.script_text.specs.Reader.{Held, held_cause}
use Rattle.match_play.specs.declared.states.NextItem.{NextItem}
use Rattle.match_play.specs.declared.states.NextItem.TheVariants as next_item
use Rattle.match_play.specs.Playing.{cause_at}
use Rattle.match_play.proofs.Playing.{with_script, with_ahead, plays_none, plays_then, plays_item, plays_lines, plays_fault, plays_stop, feed_lines, feed_nothing, feed_told, stop_answer}
use Rattle.match_play.proofs.Fits.{fit_lines, lines_fit, item_fits, fits_item, fits_lines, fits_fault, shorter}
use Rattle.match_play.proofs.Stopping.{holds_stop, tells_why}
use Rattle.match_play.proofs.match_states.read_on.Goals as goal

pub items-init : goal.items-init
items-init g c = record { plays = plays_none c.args.match_state.now c.args.bytes.now.now; takes = c.requires.takes; fit = c.requires.fit; going = c.requires.going; unended = c.requires.unended }

pub returns-in-Err-clause-plays : goal.returns-in-Err-clause-plays
returns-in-Err-clause-plays g c =
    let a = c.args.match_state.now in
    let m = c.tell_item.new.match_state in
    let x = c.args.bytes.now.now in
    let y = c.items.bytes.now in
    feed_nothing a m x y (plays_then a c.items.match_state m x y y c.items.invariant.plays (c.tell_item.ensures.plays y))

pub items-smaller : goal.items-smaller
items-smaller g c =
    let taken = rw c.in-Ok-Some.field-0-is at c.in-Ok-Some.ensures.taken in
    let m = c.tell_item.new.match_state in
    let new = c.next.new.self in
    let y = c.items.bytes.now in
    let z = c.next.new.bytes.now in
    subst (λ (h : Held). length new.bytes + length z < length h.bytes + length y) c.tell_item.ensures.script (shorter m.script new y z taken)

pub items-preserved : goal.items-preserved
items-preserved g c =
    let a = c.args.match_state.now in
    let m = c.tell_item.new.match_state in
    let new = c.next.new.self in
    let x = c.args.bytes.now.now in
    let y = c.items.bytes.now in
    let z = c.next.new.bytes.now in
    let i = c.in-Ok-Some.item in
    let at = c.in-Ok.ensures.told in
    let told = rw c.in-Ok-Some.field-0-is at c.in-Ok-Some.ensures.told in
    let rules = rw c.in-Ok-Some.field-0-is at c.in-Ok-Some.ensures.rules in
    let here = plays_then a c.items.match_state m x y y c.items.invariant.plays (c.tell_item.ensures.plays y) in
    let unended = c.tell_item.ensures.ended ∙ c.items.invariant.unended in
    let fit = fit_lines m unended at c.tell_item.ensures.fit in
    record {
      plays = plays_then a m (with_ahead m new (next_item.Item i)) x y z here (plays_item m new i y z unended at told c.next.ensures.more);
      takes = c.tell_item.ensures.takes;
      fit = item_fits m new i unended (fits_item m.progress m.script new y z i fit.0 fit.1 told rules c.in-Ok-Some.ensures.failed c.next.ensures.more c.next.ensures.limit);
      going = tt;
      unended = unended;
    }

pub returns-in-Ok-None-clause-plays : goal.returns-in-Ok-None-clause-plays
returns-in-Ok-None-clause-plays g c =
    let a = c.args.match_state.now in
    let m = c.tell_item.new.match_state in
    let new = c.next.new.self in
    let x = c.args.bytes.now.now in
    let y = c.items.bytes.now in
    let z = c.next.new.bytes.now in
    let at = c.in-Ok.ensures.told in
    let told = rw c.in-Ok-None.field-0-is at c.in-Ok-None.ensures.told in
    let taken = rw c.in-Ok-None.field-0-is at c.in-Ok-None.ensures.taken in
    let here = plays_then a c.items.match_state m x y y c.items.invariant.plays (c.tell_item.ensures.plays y) in
    let unended = c.tell_item.ensures.ended ∙ c.items.invariant.unended in
    feed_lines a (with_script m new) x z (plays_then a m (with_script m new) x y z here (plays_lines m new y z unended at told c.next.ensures.more)) unended at taken.1

pub returns-in-Ok-None-clause-fit : goal.returns-in-Ok-None-clause-fit
returns-in-Ok-None-clause-fit g c =
    let m = c.tell_item.new.match_state in
    let new = c.next.new.self in
    let at = c.in-Ok.ensures.told in
    let told = rw c.in-Ok-None.field-0-is at c.in-Ok-None.ensures.told in
    let rules = rw c.in-Ok-None.field-0-is at c.in-Ok-None.ensures.rules in
    let unended = c.tell_item.ensures.ended ∙ c.items.invariant.unended in
    let fit = fit_lines m unended at c.tell_item.ensures.fit in
    lines_fit m new unended at (fits_lines m.progress m.script new c.items.bytes.now c.next.new.bytes.now fit.0 fit.1 told rules c.in-Ok-None.ensures.failed
    c.next.ensures.more c.next.ensures.limit)

pub returns-in-Some-clause-plays : goal.returns-in-Some-clause-plays
returns-in-Some-clause-plays g c =
    let a = c.args.match_state.now in
    let m = c.tell_item.new.match_state in
    let new = c.next.new.self in
    let x = c.args.bytes.now.now in
    let y = c.items.bytes.now in
    let z = c.next.new.bytes.now in
    let stop = c.in-Some.stop in
    let at = c.in-Ok.ensures.told in
    let here = plays_then a c.items.match_state m x y y c.items.invariant.plays (c.tell_item.ensures.plays y) in
    let b = with_ahead m new (next_item.Stop stop) in
    let t = c.tell_stop.new.match_state in
    let unended = c.tell_item.ensures.ended ∙ c.items.invariant.unended in
    let stops = plays_then a m b x y [] here (plays_stop m new y z c.in-Err-next.fault stop unended at c.in-Err-next.ensures.told (sym c.stop_in.ensures ∙ c.in-Some.is)) in
    feed_told a t x [] c.tell_stop.result (plays_then a b t x [] [] stops (c.tell_stop.ensures.plays [])) (c.tell_stop.ensures.ended ∙ unended) c.tell_stop.ensures.stop

pub returns-in-Some-clause-answer : goal.returns-in-Some-clause-answer
returns-in-Some-clause-answer g c = λ is. stop_answer c.tell_stop.new.match_state.next_item c.tell_stop.result c.tell_stop.ensures.stop is

pub returns-in-None-clause-plays : goal.returns-in-None-clause-plays
returns-in-None-clause-plays g c =
    let a = c.args.match_state.now in
    let m = c.tell_item.new.match_state in
    let new = c.next.new.self in
    let x = c.args.bytes.now.now in
    let y = c.items.bytes.now in
    let z = c.next.new.bytes.now in
    let at = c.in-Ok.ensures.told in
    let here = plays_then a c.items.match_state m x y y c.items.invariant.plays (c.tell_item.ensures.plays y) in
    feed_nothing a (with_script m new) x z
    (plays_then a m (with_script m new) x y z here
    (plays_fault m new y z c.in-Err-next.fault (c.tell_item.ensures.ended ∙ c.items.invariant.unended) at c.in-Err-next.ensures.told c.next.ensures.more (sym c.stop_in.ensures ∙ c.in-None.is)))

pub returns-in-None-clause-fit : goal.returns-in-None-clause-fit
returns-in-None-clause-fit g c =
    let m = c.tell_item.new.match_state in
    let new = c.next.new.self in
    let at = c.in-Ok.ensures.told in
    let unended = c.tell_item.ensures.ended ∙ c.items.invariant.unended in
    let fit = fit_lines m unended at c.tell_item.ensures.fit in
    lines_fit m new unended at (fits_fault m.progress m.script new c.items.bytes.now c.next.new.bytes.now c.in-Err-next.fault fit.0 fit.1 (sym c.stop_in.ensures ∙ c.in-None.is)
    c.in-Err-next.ensures.told c.in-Err-next.ensures.rules c.in-Err-next.ensures.failed c.next.ensures.more c.next.ensures.limit)

pub next-requires-clause-going : goal.next-requires-clause-going
next-requires-clause-going g c =
    let m = c.tell_item.new.match_state in
    (fit_lines m (c.tell_item.ensures.ended ∙ c.items.invariant.unended) c.in-Ok.ensures.told c.tell_item.ensures.fit).0.going

pub next-requires-clause-more : goal.next-requires-clause-more
next-requires-clause-more g c =
    let m = c.tell_item.new.match_state in
    (fit_lines m (c.tell_item.ensures.ended ∙ c.items.invariant.unended) c.in-Ok.ensures.told c.tell_item.ensures.fit).0.more

pub tell_stop-requires-clause-fit : goal.tell_stop-requires-clause-fit
tell_stop-requires-clause-fit g c =
    holds_stop c.next.new.self c.in-Err-next.fault c.in-Some.stop c.in-Err-next.ensures.bad (sym c.stop_in.ensures ∙ c.in-Some.is)

pub returns-in-Ok-None-clause-why : goal.returns-in-Ok-None-clause-why
returns-in-Ok-None-clause-why g c = ap (λ (next : NextItem). cause_at next (held_cause c.next.new.self)) c.in-Ok.ensures.told

pub returns-in-Some-clause-why : goal.returns-in-Some-clause-why
returns-in-Some-clause-why g c = tells_why c.tell_stop.new.match_state c.tell_stop.result c.tell_stop.ensures.stop c.tell_stop.ensures.fit
