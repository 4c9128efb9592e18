use Rattle.std.proofs.Common.{◌∙◌, ℕ, [], Option, Ok, Err, refl, ap, subst}
use Rattle.std.proofs.lemmas.Result.{err_from_is_err_and}
use Rattle.input_lines.specs.Held.{HeldLine}
use Rattle.input_lines.specs.Pushed.{PushAnswer}
use Rattle.script_text.specs.declared.items.ScriptItem.{ScriptItem}
use Rattle.script_text.specs.Script.{accept}
use Rattle.script_text.specs.Reader.{rules_at}
use Rattle.script_text.specs.Pushed.{KeepsRules}
use Rattle.script_text.specs.inner.Judging.{GivesItem, held_at}
use Rattle.script_text.proofs.HeldCauses.{holds_refused}
use Rattle.script_text.proofs.PushedReads.{count_line, count_more, ends_line, line_refused, next_refused, no_line_held, pushes_line, pushes_more}
use Rattle.script_text.proofs.pushed.next_item.Goals as goal

-- the line gives nothing
pub lines-preserved : goal.lines-preserved
lines-preserved c =
    let first = held_at c.args.progress.now c.args.line.now in
    let now = c.next_size.new.line in
    let Found : Option ℕ → Type 0 = λ found. PushAnswer c.lines.line now c.room-room.result (Ok found) c.lines.bytes.now c.next_size.new.bytes.now in
    let Given : Option ScriptItem → Type 0 = λ next. GivesItem (accept c.in-Some.size now.line c.lines.progress) c.take_held.new.progress (Ok next) in
    let Kept : Option ScriptItem → Type 0 = λ next. KeepsRules (rules_at c.lines.progress.part) (rules_at c.take_held.new.progress.part) (Ok next) in
    let found = subst Found c.in-Some.is c.in-Ok.ensures.takes in
    record {
      told = pushes_line first c.lines.progress c.take_held.new.progress now c.take_held.new.line c.in-Some.size c.args.bytes.now.now c.next_size.new.bytes.now []
          c.in_ok-item.ensures.line found.1 c.next_size.ensures.plain (subst Given c.in_default-2.is c.in_ok-item.ensures.gives)
          (pushes_more first c.lines.progress c.lines.line now c.args.bytes.now.now c.lines.bytes.now c.next_size.new.bytes.now c.lines.invariant.behind c.next_size.ensures.behind found.0 c.lines.invariant.told);
      behind = ap (λ (h : HeldLine). h.rest) c.in_ok-item.ensures.line ∙ c.next_size.ensures.behind;
      rules = subst Kept c.in_default-2.is c.in_ok-item.ensures.rules ∙ c.lines.invariant.rules;
      have = c.in_ok-item.ensures.have;
      few = c.in_ok-item.ensures.few;
      count = count_line _ c.lines.progress c.take_held.new.progress c.lines.line now c.take_held.new.line c.in-Some.size c.lines.bytes.now c.next_size.new.bytes.now found.0
          c.in_ok-item.ensures.line c.next_size.ensures.behind found.1 c.in_ok-item.ensures.used c.lines.invariant.count;
    }

-- the line gives something
pub returns-in-Some-2-clause-told : goal.returns-in-Some-2-clause-told
returns-in-Some-2-clause-told c =
    let first = held_at c.args.progress.now c.args.line.now in
    let now = c.next_size.new.line in
    let Found : Option ℕ → Type 0 = λ found. PushAnswer c.lines.line now c.room-room.result (Ok found) c.lines.bytes.now c.next_size.new.bytes.now in
    let Given : Option ScriptItem → Type 0 = λ next. GivesItem (accept c.in-Some.size now.line c.lines.progress) c.take_held.new.progress (Ok next) in
    let found = subst Found c.in-Some.is c.in-Ok.ensures.takes in
    pushes_line first c.lines.progress c.take_held.new.progress now c.take_held.new.line c.in-Some.size c.args.bytes.now.now c.next_size.new.bytes.now _
    c.in_ok-item.ensures.line found.1 c.next_size.ensures.plain (subst Given c.in-Some-2.is c.in_ok-item.ensures.gives)
    (pushes_more first c.lines.progress c.lines.line now c.args.bytes.now.now c.lines.bytes.now c.next_size.new.bytes.now c.lines.invariant.behind c.next_size.ensures.behind found.0 c.lines.invariant.told)

pub returns-in-Some-2-clause-taken : goal.returns-in-Some-2-clause-taken
returns-in-Some-2-clause-taken c =
    let first = held_at c.args.progress.now c.args.line.now in
    let now = c.next_size.new.line in
    let Found : Option ℕ → Type 0 = λ found. PushAnswer c.lines.line now c.room-room.result (Ok found) c.lines.bytes.now c.next_size.new.bytes.now in
    let found = subst Found c.in-Some.is c.in-Ok.ensures.takes in
    ends_line first c.lines.progress now c.take_held.new.line c.take_held.new.progress c.in-Some.size c.args.bytes.now.now c.next_size.new.bytes.now c.in_ok-item.ensures.line c.next_size.ensures.behind
    found.1 c.next_size.ensures.plain
    (pushes_more first c.lines.progress c.lines.line now c.args.bytes.now.now c.lines.bytes.now c.next_size.new.bytes.now c.lines.invariant.behind c.next_size.ensures.behind found.0 c.lines.invariant.told)

pub returns-in-Some-2-clause-count : goal.returns-in-Some-2-clause-count
returns-in-Some-2-clause-count c =
    let now = c.next_size.new.line in
    let Found : Option ℕ → Type 0 = λ found. PushAnswer c.lines.line now c.room-room.result (Ok found) c.lines.bytes.now c.next_size.new.bytes.now in
    let found = subst Found c.in-Some.is c.in-Ok.ensures.takes in
    count_line _ c.lines.progress c.take_held.new.progress c.lines.line now c.take_held.new.line c.in-Some.size c.lines.bytes.now c.next_size.new.bytes.now found.0
    c.in_ok-item.ensures.line c.next_size.ensures.behind found.1 c.in_ok-item.ensures.used c.lines.invariant.count

-- the bytes are used up
pub returns-in_default-clause-told : goal.returns-in_default-clause-told
returns-in_default-clause-told c =
    let now = c.next_size.new.line in
    let Found : Option ℕ → Type 0 = λ found. PushAnswer c.lines.line now c.room-room.result (Ok found) c.lines.bytes.now c.next_size.new.bytes.now in
    let found = subst Found c.in_default.is c.in-Ok.ensures.takes in
    pushes_more (held_at c.args.progress.now c.args.line.now) c.lines.progress c.lines.line now c.args.bytes.now.now c.lines.bytes.now c.next_size.new.bytes.now c.lines.invariant.behind c.next_size.ensures.behind
    found.0 c.lines.invariant.told

pub returns-in_default-clause-taken : goal.returns-in_default-clause-taken
returns-in_default-clause-taken c =
    let now = c.next_size.new.line in
    let Found : Option ℕ → Type 0 = λ found. PushAnswer c.lines.line now c.room-room.result (Ok found) c.lines.bytes.now c.next_size.new.bytes.now in
    let found = subst Found c.in_default.is c.in-Ok.ensures.takes in
    (found.1.0, no_line_held c.lines.progress now c.next_size.ensures.plain found.1.1 c.next_size.ensures.behind)

pub returns-in_default-clause-count : goal.returns-in_default-clause-count
returns-in_default-clause-count c =
    let now = c.next_size.new.line in
    let Found : Option ℕ → Type 0 = λ found. PushAnswer c.lines.line now c.room-room.result (Ok found) c.lines.bytes.now c.next_size.new.bytes.now in
    let found = subst Found c.in_default.is c.in-Ok.ensures.takes in
    count_more _ c.lines.progress c.lines.line now c.lines.bytes.now c.next_size.new.bytes.now found.0 c.lines.invariant.count

-- the line is refused
pub returns-in_err-item-clause-told : goal.returns-in_err-item-clause-told
returns-in_err-item-clause-told c =
    let first = held_at c.args.progress.now c.args.line.now in
    let now = c.next_size.new.line in
    let Found : Option ℕ → Type 0 = λ found. PushAnswer c.lines.line now c.room-room.result (Ok found) c.lines.bytes.now c.next_size.new.bytes.now in
    let found = subst Found c.in-Some.is c.in-Ok.ensures.takes in
    let p = err_from_is_err_and c.from_residual.result c.from_residual.ensures.1 in
    rw (p.1, p.2)
    (line_refused first c.lines.progress c.take_held.new.progress now c.take_held.new.line c.in-Some.size c.args.bytes.now.now c.next_size.new.bytes.now c.in_err-item.field-0.0
    c.in_err-item.ensures.kept found.1 c.next_size.ensures.plain c.in_err-item.ensures.gives c.in_err-item.ensures.bad (λ e. c.in_err-item.ensures.memory (ap (λ f. Err f) e))
    (pushes_more first c.lines.progress c.lines.line now c.args.bytes.now.now c.lines.bytes.now c.next_size.new.bytes.now c.lines.invariant.behind c.next_size.ensures.behind found.0 c.lines.invariant.told))

pub returns-in_err-item-clause-bad : goal.returns-in_err-item-clause-bad
returns-in_err-item-clause-bad c =
    let now = c.next_size.new.line in
    let Found : Option ℕ → Type 0 = λ found. PushAnswer c.lines.line now c.room-room.result (Ok found) c.lines.bytes.now c.next_size.new.bytes.now in
    let found = subst Found c.in-Some.is c.in-Ok.ensures.takes in
    let p = err_from_is_err_and c.from_residual.result c.from_residual.ensures.1 in
    rw (p.1, p.2, c.in_err-item.ensures.kept)
    (holds_refused c.lines.progress c.take_held.new.progress now c.in-Some.size c.in_err-item.field-0.0 now.line refl c.next_size.ensures.plain found.1 c.in_err-item.ensures.gives c.in_err-item.ensures.bad)

-- no next line came
pub returns-in-Err-clause-told : goal.returns-in-Err-clause-told
returns-in-Err-clause-told c =
    rw c.no_line.ensures
    (next_refused (held_at c.args.progress.now c.args.line.now) c.lines.progress c.lines.line c.next_size.new.line c.room-room.result c.args.bytes.now.now c.lines.bytes.now c.next_size.new.bytes.now
    c.in-Err.fault c.room-room.ensures.room c.next_size.ensures.plain c.in-Err.ensures.begun c.lines.invariant.behind c.in-Err.ensures.refused.0 c.in-Err.ensures.refused.1
    c.in-Err.ensures.takes c.lines.invariant.told)
