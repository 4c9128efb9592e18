use Rattle.std.proofs.Common.{subst, sym}
use Rattle.match_play.specs.Scripts.{RefusesScript}
use Rattle.match_play.specs.inner.Reading.{HoldsCause}
use Rattle.match_play.proofs.LastItems.{rest_shorter}
use Rattle.match_play.proofs.ScriptsSaid.{fits_next, rest_holds, rest_item, rest_stops, rest_whole, with_item, with_lines}
use Rattle.match_play.proofs.scripts.read_rest.Goals as goal

pub items-init : goal.items-init
items-init c = record { read = λ script h. h; goes = c.requires.keeps; going = c.requires.going }

pub items-smaller : goal.items-smaller
items-smaller c =
    let told = rw c.in-Ok-Some.field-0-is at c.in-Ok-Some.ensures.told in
    rest_shorter c.items.lines c.finish.new.self c.in-Ok-Some.item told

pub items-preserved : goal.items-preserved
items-preserved c =
    let told = rw c.in-Ok-Some.field-0-is at c.in-Ok-Some.ensures.told in
    let rules = rw c.in-Ok-Some.field-0-is at c.in-Ok-Some.ensures.rules in
    let says = c.in_ok-take_item-in-Ok-Some.ensures in
    let old = c.items.lines in
    let new = c.finish.new.self in
    let next = c.take_item.new.said in
    record {
      read = λ script h. rest_item script old new c.items.said next c.in-Ok-Some.item (c.items.invariant.read script h) told says.map says.turns;
      goes = with_item old new c.items.said next c.in-Ok-Some.item c.items.invariant.goes rules says.map says.turns;
      going = c.in-Ok-Some.ensures.failed;
    }

pub take_item-requires : goal.take_item-requires
take_item-requires c =
    let rules = rw c.in-Ok-Some.field-0-is at c.in-Ok-Some.ensures.rules in
    record { fits = fits_next c.items.lines c.finish.new.self c.items.said c.in-Ok-Some.item c.items.invariant.goes rules }

pub returns-in-Ok-None-clause-ok : goal.returns-in-Ok-None-clause-ok
returns-in-Ok-None-clause-ok c = λ script h.
    let told = rw c.in-Ok-None.field-0-is at c.in-Ok-None.ensures.told in
    rest_whole script c.items.lines c.items.said (c.items.invariant.read script h) told.0

pub returns-in-Ok-None-clause-keeps : goal.returns-in-Ok-None-clause-keeps
returns-in-Ok-None-clause-keeps c =
    let rules = rw c.in-Ok-None.field-0-is at c.in-Ok-None.ensures.rules in
    with_lines c.items.lines c.finish.new.self c.items.said c.items.invariant.goes rules

pub returns-in-Err-clause-err : goal.returns-in-Err-clause-err
returns-in-Err-clause-err c = λ script h.
    subst (RefusesScript script) (sym c.fault_in.ensures)
    (rest_stops script c.items.lines c.finish.new.self c.items.said c.in-Err.fault (c.items.invariant.read script h) c.in-Err.ensures.told)

pub returns-in-Err-clause-cause : goal.returns-in-Err-clause-cause
returns-in-Err-clause-cause c = λ script h.
    subst (HoldsCause script c.finish.new.self) (sym c.fault_in.ensures)
    (rest_holds script c.items.lines c.finish.new.self c.items.said c.in-Err.fault (c.items.invariant.read script h) c.in-Err.ensures.told c.in-Err.ensures.bad)
