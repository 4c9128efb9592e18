use Rattle.std.proofs.Common.{ap, subst, sym}
use Rattle.script_text.specs.Reader.{Held}
use Rattle.match_play.specs.Scripts.{RefusesScript}
use Rattle.match_play.specs.inner.Reading.{HoldsCause}
use Rattle.match_play.proofs.Fits.{shorter}
use Rattle.match_play.proofs.ScriptsSaid.{fits_next, lines_hold, lines_stop, read_item, read_lines, read_nothing, with_item, with_lines, with_nothing}
use Rattle.match_play.proofs.scripts.read_lines.Goals as goal

pub items-init : goal.items-init
items-init c = record {
  read = read_nothing c.args.script.now c.args.lines.now c.args.said.now c.requires.unread c.requires.unsaid;
  goes = with_nothing c.args.lines.now c.args.said.now c.requires.unread c.requires.unsaid;
  going = ap (λ (h : Held). h.failed) c.requires.unread;
  more = ap (λ (h : Held). h.ended) c.requires.unread;
}

pub items-smaller : goal.items-smaller
items-smaller c =
    let taken = rw c.in-Ok-Some.field-0-is at c.in-Ok-Some.ensures.taken in
    shorter c.items.lines c.next.new.self c.items.left.now c.next.new.bytes.now taken

pub items-preserved : goal.items-preserved
items-preserved c =
    let told = rw c.in-Ok-Some.field-0-is at c.in-Ok-Some.ensures.told in
    let rules = rw c.in-Ok-Some.field-0-is at c.in-Ok-Some.ensures.rules in
    let says = c.in_ok-take_item-in-Ok-Some.ensures in
    let old = c.items.lines in
    let new = c.next.new.self in
    let next = c.take_item.new.said in
    record {
      read = read_item c.args.script.now old new c.items.left.now c.next.new.bytes.now c.items.said next c.in-Ok-Some.item c.items.invariant.read told says.map says.turns;
      goes = with_item old new c.items.said next c.in-Ok-Some.item c.items.invariant.goes rules says.map says.turns;
      going = c.in-Ok-Some.ensures.failed;
      more = c.next.ensures.more;
    }

pub take_item-requires : goal.take_item-requires
take_item-requires c =
    let rules = rw c.in-Ok-Some.field-0-is at c.in-Ok-Some.ensures.rules in
    record { fits = fits_next c.items.lines c.next.new.self c.items.said c.in-Ok-Some.item c.items.invariant.goes rules }

pub returns-in-Ok-None-clause-ok : goal.returns-in-Ok-None-clause-ok
returns-in-Ok-None-clause-ok c =
    let told = rw c.in-Ok-None.field-0-is at c.in-Ok-None.ensures.told in
    let taken = rw c.in-Ok-None.field-0-is at c.in-Ok-None.ensures.taken in
    read_lines c.args.script.now c.items.lines c.next.new.self c.items.left.now c.next.new.bytes.now c.items.said c.items.invariant.read told taken.0

pub returns-in-Ok-None-clause-keeps : goal.returns-in-Ok-None-clause-keeps
returns-in-Ok-None-clause-keeps c =
    let rules = rw c.in-Ok-None.field-0-is at c.in-Ok-None.ensures.rules in
    with_lines c.items.lines c.next.new.self c.items.said c.items.invariant.goes rules

pub returns-in-Err-clause-err : goal.returns-in-Err-clause-err
returns-in-Err-clause-err c =
    subst (RefusesScript c.args.script.now) (sym c.fault_in.ensures)
    (lines_stop c.args.script.now c.items.lines c.next.new.self c.items.left.now c.next.new.bytes.now c.items.said c.in-Err.fault c.items.invariant.read c.in-Err.ensures.told)

pub returns-in-Err-clause-cause : goal.returns-in-Err-clause-cause
returns-in-Err-clause-cause c =
    subst (HoldsCause c.args.script.now c.next.new.self) (sym c.fault_in.ensures)
    (lines_hold c.args.script.now c.items.lines c.next.new.self c.items.left.now c.next.new.bytes.now c.items.said c.in-Err.fault c.items.invariant.read
    c.in-Err.ensures.told c.in-Err.ensures.bad)
