use Rattle.std.proofs.Common.{◌≡◌, ◌<◌, ◌^◌, ℕ, [], ◌∷◌, Option, Result, Ok, Err, ap, arith, refl, sym, subst, ◌∙◌}
use Rattle.input_lines.proofs.ToldLines.{rose-later}
use Rattle.io_edges.proofs.Passed.{given_more, taken_more}
use Rattle.io_edges.specs.declared.edges.WriteRefusal.{WriteRefusal}
use Rattle.match_play.specs.Grounds.{said_of}
use Rattle.match_play.proofs.Items.{fits_now, fits_then, turns_next}
use Rattle.script_text.specs.declared.faults.ScriptFault.{ScriptFault}
use Rattle.script_text.specs.declared.items.ScriptItem.{ScriptItem}
use Rattle.script_text.specs.Led.{Led}
use Rattle.script_text.specs.Pushed.{item_of}
use Rattle.script_text.specs.Reader.{Held, unread}
use Rattle.pathserve.specs.Output.{Says, unsaid}
use Rattle.pathserve.specs.Runs.{names_line}
use Rattle.pathserve.proofs.Endings.{runs_nothing, runs_stopped}
use Rattle.pathserve.proofs.Passes.{done_no_read, done_no_usage, done_no_write, none_named, refused_no_line, some_taken, stands_given, stands_taken}
use Rattle.pathserve.proofs.Refusals.{refused_by_fault, refused_no_read, refused_no_usage, stop_refused}
use Rattle.pathserve.proofs.Replaying.{Stands, stands_first, stands_item, stands_refused, stop_done, takes_item, told_done, told_fault, told_item, told_no_reader}
use Rattle.pathserve.proofs.replay.replay_by.Goals as goal

-- ---- there was no memory for the reader

pub returns-in_default-clause-run : goal.returns-in_default-clause-run
returns-in_default-clause-run g c = runs_nothing _ _ _ _ _ refl

pub returns-in_default-clause-told : goal.returns-in_default-clause-told
returns-in_default-clause-told g c = told_no_reader c.args.report _ _

-- ---- the items

pub items-init : goal.items-init
items-init g c = record {
  stands = subst (λ (h : Held). Stands c.args.report (g.S.Source.left c.args.source.now) (g.S.Source.left c.args.source.now) (g.K.Sink.kept c.args.sink.now) (g.K.Sink.kept c.args.sink.now) h unsaid)
      (sym c.in-Ok.ensures) (stands_first c.args.report (g.S.Source.left c.args.source.now) (g.K.Sink.kept c.args.sink.now));
  takes = c.requires.takes;
  quiet = refl;
  going = ap (λ (h : Held). h.over) c.in-Ok.ensures;
  fits = ap (λ (h : Held). h.place.part) c.in-Ok.ensures;
  few = omega arith;
  reads = omega arith;
  writes = omega arith;
}

-- the next item may come
pub write_item-requires-clause-fits : goal.write_item-requires-clause-fits
write_item-requires-clause-fits g c =
    let before = c.items.invariant in
    let led : Led c.items.reader.place (item_of c.in-Ok-Some.item ∷ []) c.next_item.new.self.place = rw c.in-Ok-Some.field-0-is at c.in-Ok-Some.ensures.led in
    let used = led.bytes in
    let rules = rw c.in-Ok-Some.field-0-is at c.in-Ok-Some.ensures.rules in
    fits_now c.items.progress c.items.reader.place.part c.next_item.new.self.place.part c.in-Ok-Some.item before.fits rules (λ inside. (led.turns inside).1)
    (omega (arith, before.few, used, c.in-Ok-Some.ensures.leaves.held.limit))

pub write_item-requires-clause-takes : goal.write_item-requires-clause-takes
write_item-requires-clause-takes g c =
    let few = rw c.in-Ok-Some.field-0-is at c.in-Ok-Some.ensures.few in
    takes_item (g.A.Answerer.takes c.items.answerer) c.in-Ok-Some.item few c.items.invariant.takes

pub items-smaller : goal.items-smaller
items-smaller g c =
    let led : Led c.items.reader.place (item_of c.in-Ok-Some.item ∷ []) c.next_item.new.self.place = rw c.in-Ok-Some.field-0-is at c.in-Ok-Some.ensures.led in
    let used = led.bytes in
    omega (arith, used, c.in-Ok-Some.ensures.leaves.held.limit)

pub items-preserved : goal.items-preserved
items-preserved g c =
    let before = c.items.invariant in
    let i = c.in-Ok-Some.item in
    let told = rw c.in-Ok-Some.field-0-is at c.in-Ok-Some.ensures.told in
    let led : Led c.items.reader.place (item_of c.in-Ok-Some.item ∷ []) c.next_item.new.self.place = rw c.in-Ok-Some.field-0-is at c.in-Ok-Some.ensures.led in
    let used = led.bytes in
    let rules = rw c.in-Ok-Some.field-0-is at c.in-Ok-Some.ensures.rules in
    let left_behind = rw c.in-Ok-Some.field-0-is at c.in-Ok-Some.ensures.leaves in
    let becomes = c.in-Ok-write_item.ensures.progress in
    record {
      stands = stands_item c.args.report _ _ _ _ _ _ _ _ _ _ i tt before.stands told c.in-Ok-Some.ensures.leaves.held.stays c.in-Ok-write_item.ensures.written;
      takes = λ count few. c.in-Ok-write_item.ensures.takes count (before.takes count few);
      quiet = before.quiet;
      going = left_behind.over;
      fits = fits_then c.items.progress c.write_item.new.progress c.items.reader.place.part c.next_item.new.self.place.part i before.fits rules led.begun becomes;
      few = omega (arith, before.few, used, turns_next c.items.progress c.write_item.new.progress i becomes);
      reads = omega (arith, before.reads, c.in-Ok-Some.ensures.takes.later);
      writes = omega (arith, before.writes, c.in-Ok-write_item.ensures.later);
    }

-- ---- an item was not written

pub returns-in-Err-write_item-clause-run : goal.returns-in-Err-write_item-clause-run
returns-in-Err-write_item-clause-run g c =
    let Refused : WriteRefusal → Result (Unit {0}) WriteRefusal = λ refused. Err refused in
    let refusal = c.in-Err-write_item.refusal in
    record {
      stop = λ bytes left. rw c.status_of.ensures
          (stop_refused _ _ _ _ _ refusal (λ is. rose-later _ _ _ c.items.invariant.writes (c.in-Err-write_item.ensures.fault (ap Refused is))));
      usage = λ is. refused_no_usage refusal (sym c.status_of.ensures ∙ is);
      source = record {
        given = given_more _ _ _ (stands_given c.args.report _ _ _ _ _ _ c.items.invariant.stands) c.next_item.ensures.takes.given;
        later = omega (arith, c.items.invariant.reads, c.next_item.ensures.takes.later);
        fault = λ is. absurd (refused_no_read refusal (sym c.status_of.ensures ∙ is));
      };
      sink = record {
        taken = taken_more _ _ _ (stands_taken c.args.report _ _ _ _ _ _ c.items.invariant.stands)
            (some_taken (λ text. Says c.args.report (said_of c.items.progress) (item_of c.in-Ok-Some.item) text (said_of c.write_item.new.progress)) _ _
            (Refused refusal) c.in-Err-write_item.ensures.written);
        later = omega (arith, c.items.invariant.writes, c.in-Err-write_item.ensures.later);
        fault = λ is.
            let failed = refused_by_fault refusal (sym c.status_of.ensures ∙ is) in
            rose-later _ _ _ c.items.invariant.writes (c.in-Err-write_item.ensures.fault (ap Refused failed));
      };
      why = none_named _ _ _ c.items.invariant.quiet (ap names_line c.status_of.ensures ∙ refused_no_line refusal);
    }

pub returns-in-Err-write_item-clause-told : goal.returns-in-Err-write_item-clause-told
returns-in-Err-write_item-clause-told g c =
    let told = rw c.in-Ok-Some.field-0-is at c.in-Ok-Some.ensures.told in
    rw c.status_of.ensures
    (told_item c.args.report _ _ _ _ _ _ _ _ _ _ c.in-Ok-Some.item c.in-Err-write_item.refusal c.items.invariant.stands told c.in-Err-write_item.ensures.written)

-- ---- the script is at its end

pub returns-in-Ok-None-clause-run : goal.returns-in-Ok-None-clause-run
returns-in-Ok-None-clause-run g c =
    let told = rw c.in-Ok-None.field-0-is at c.in-Ok-None.ensures.told in
    record {
      stop = stop_done c.args.report _ _ _ _ _ _ c.next_item.new.self _ _ _ _ _ c.items.invariant.stands told;
      usage = done_no_usage;
      source = record {
        given = given_more _ _ _ (stands_given c.args.report _ _ _ _ _ _ c.items.invariant.stands) c.next_item.ensures.takes.given;
        later = omega (arith, c.items.invariant.reads, c.next_item.ensures.takes.later);
        fault = λ is. absurd (done_no_read is);
      };
      sink = record {
        taken = stands_taken c.args.report _ _ _ _ _ _ c.items.invariant.stands;
        later = c.items.invariant.writes;
        fault = λ is. absurd (done_no_write is);
      };
      why = none_named _ _ _ c.items.invariant.quiet refl;
    }

pub returns-in-Ok-None-clause-told : goal.returns-in-Ok-None-clause-told
returns-in-Ok-None-clause-told g c =
    let told = rw c.in-Ok-None.field-0-is at c.in-Ok-None.ensures.told in
    told_done c.args.report _ _ _ _ _ _ c.next_item.new.self _ c.items.invariant.stands told

-- ---- no more of it comes

pub returns-in-Err-clause-run : goal.returns-in-Err-clause-run
returns-in-Err-clause-run g c =
    let refused = stands_refused c.args.report _ _ _ _ _ _ c.next_item.new.self _ c.in-Err.fault c.items.invariant.stands c.in-Err.ensures.told in
    let Refused : ScriptFault → Result (Option ScriptItem) ScriptFault = λ fault. Err fault in
    runs_stopped c.next_item.new.self c.in-Err.fault _ _ _ _ _ _ _ _ _ _ _ _ refused c.stop_at.ensures.stops
    (given_more _ _ _ (stands_given c.args.report _ _ _ _ _ _ c.items.invariant.stands) c.next_item.ensures.takes.given)
    (stands_taken c.args.report _ _ _ _ _ _ c.items.invariant.stands) (omega (arith, c.items.invariant.reads, c.next_item.ensures.takes.later))
    (λ is. rose-later _ _ _ c.items.invariant.reads (c.in-Err.ensures.takes.fault (ap Refused is))) c.items.invariant.writes c.stop_at.ensures.later c.stop_at.ensures.write
    (record { true_of = c.stop_at.ensures.why; status_of = c.stop_at.ensures.status; named = c.stop_at.ensures.named })

pub returns-in-Err-clause-told : goal.returns-in-Err-clause-told
returns-in-Err-clause-told g c =
    told_fault c.args.report _ _ _ _ _ _ _ _ _ c.in-Err.fault _ c.items.invariant.stands c.in-Err.ensures.told c.stop_at.ensures.stops
