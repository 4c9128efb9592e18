use Rattle.std.proofs.Common.{◌∙◌, sym, [], ◌∷◌, Option, Ok, Err, ap, subst, arith}
use Rattle.std.proofs.lemmas.Result.{err_from_is_err_and}
use Rattle.script_text.specs.declared.items.ScriptItem.{ScriptItem}
use Rattle.script_text.specs.Pushed.{item_of}
use Rattle.script_text.specs.Script.{accept, finish}
use Rattle.script_text.specs.inner.Judging.{GivesItem, held_at}
use Rattle.script_text.proofs.LedLines.{ends_led, led_line}
use Rattle.script_text.proofs.PushedEnds.{end_alone, end_behind, last_gives, last_holds, last_refused}
use Rattle.script_text.proofs.pushed.last_item.Goals as goal

-- the last line is refused
pub returns-in_err-item-clause-told : goal.returns-in_err-item-clause-told
returns-in_err-item-clause-told c =
    let p = err_from_is_err_and c.from_residual.result c.from_residual.ensures.1 in
    rw (p.1, p.2)
    (last_refused c.args.progress.now c.take_held.new.progress c.args.line.now c.take_held.new.line c.held-size.result c.in_err-item.field-0.0 c.requires.behind c.held-size.ensures.bytes
    (omega (arith, c.if-size-eq0.false)) c.take_held.ensures.plain c.in_err-item.ensures.kept c.in_err-item.ensures.gives c.in_err-item.ensures.bad (λ e. c.in_err-item.ensures.memory (ap (λ f. Err f) e)))

pub returns-in_err-item-clause-bad : goal.returns-in_err-item-clause-bad
returns-in_err-item-clause-bad c =
    let p = err_from_is_err_and c.from_residual.result c.from_residual.ensures.1 in
    rw (p.1, p.2)
    (last_holds c.args.progress.now c.take_held.new.progress c.args.line.now c.take_held.new.line c.held-size.result c.in_err-item.field-0.0 c.requires.behind c.held-size.ensures.bytes
    (omega (arith, c.if-size-eq0.false)) c.take_held.ensures.plain c.in_err-item.ensures.kept c.in_err-item.ensures.gives c.in_err-item.ensures.bad)

-- it gives something
pub returns-in-Some-clause-told : goal.returns-in-Some-clause-told
returns-in-Some-clause-told c =
    let Given : Option ScriptItem → Type 0 = λ next. GivesItem (accept c.held-size.result c.args.line.now.line c.args.progress.now) c.take_held.new.progress (Ok next) in
    last_gives c.args.progress.now c.take_held.new.progress c.args.line.now c.take_held.new.line c.held-size.result c.in-Some.item c.requires.behind c.held-size.ensures.bytes
    (omega (arith, c.if-size-eq0.false)) c.take_held.ensures.plain c.in_ok-item.ensures.line (subst Given c.in-Some.is c.in_ok-item.ensures.gives)

-- it gives nothing
pub returns-in-None-clause-told : goal.returns-in-None-clause-told
returns-in-None-clause-told c =
    let Given : Option ScriptItem → Type 0 = λ next. GivesItem (accept c.held-size.result c.args.line.now.line c.args.progress.now) c.take_held.new.progress (Ok next) in
    end_behind c.args.progress.now c.take_held.new.progress c.args.line.now c.take_held.new.line c.held-size.result c.end_item-in-None.result c.requires.behind c.held-size.ensures.bytes
    (omega (arith, c.if-size-eq0.false)) c.take_held.ensures.plain c.in_ok-item.ensures.line (subst Given c.in-None.is c.in_ok-item.ensures.gives) c.end_item-in-None.ensures.ends
    c.end_item-in-None.ensures.memory

-- nothing is held
pub returns-then-size-eq0-clause-told : goal.returns-then-size-eq0-clause-told
returns-then-size-eq0-clause-told c =
    end_alone c.args.progress.now c.args.line.now c.end_item.result (sym c.held-size.ensures.bytes ∙ c.if-size-eq0.true) c.end_item.ensures.ends c.end_item.ensures.memory

-- ---- where it leads

pub returns-in-Some-clause-led : goal.returns-in-Some-clause-led
returns-in-Some-clause-led c =
    let Given : Option ScriptItem → Type 0 = λ next. GivesItem (accept c.held-size.result c.args.line.now.line c.args.progress.now) c.take_held.new.progress (Ok next) in
    led_line c.held-size.result c.args.line.now.line c.args.progress.now (item_of c.in-Some.item ∷ []) c.take_held.new.progress (omega (arith, c.if-size-eq0.false))
    (subst Given c.in-Some.is c.in_ok-item.ensures.gives)

pub returns-in-None-clause-led : goal.returns-in-None-clause-led
returns-in-None-clause-led c =
    let Given : Option ScriptItem → Type 0 = λ next. GivesItem (accept c.held-size.result c.args.line.now.line c.args.progress.now) c.take_held.new.progress (Ok next) in
    ends_led (held_at c.args.progress.now c.args.line.now) (held_at c.take_held.new.progress c.take_held.new.line) (finish c.take_held.new.progress) c.end_item-in-None.result
    (end_behind c.args.progress.now c.take_held.new.progress c.args.line.now c.take_held.new.line c.held-size.result c.end_item-in-None.result c.requires.behind c.held-size.ensures.bytes
    (omega (arith, c.if-size-eq0.false)) c.take_held.ensures.plain c.in_ok-item.ensures.line (subst Given c.in-None.is c.in_ok-item.ensures.gives) c.end_item-in-None.ensures.ends
    c.end_item-in-None.ensures.memory) c.end_item-in-None.ensures.ends

pub returns-then-size-eq0-clause-led : goal.returns-then-size-eq0-clause-led
returns-then-size-eq0-clause-led c =
    ends_led (held_at c.args.progress.now c.args.line.now) (held_at c.args.progress.now c.args.line.now) (finish c.args.progress.now) c.end_item.result
    (end_alone c.args.progress.now c.args.line.now c.end_item.result (sym c.held-size.ensures.bytes ∙ c.if-size-eq0.true) c.end_item.ensures.ends c.end_item.ensures.memory)
    c.end_item.ensures.ends
