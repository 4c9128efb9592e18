use Rattle.std.proofs.Common.{◌∷◌, [], ◌∙◌, Option, Some, Ok, Err, IfSome, refl, sym, subst, inr, arith}
use Rattle.std.proofs.lemmas.Bool.{false≢true}
use Rattle.std.proofs.lemmas.Result.{err_from_is_err_and}
use Rattle.input_lines.proofs.ToldLines.{rose-later, some_held}
use Rattle.script_text.specs.declared.items.ScriptItem.{ScriptItem}
use Rattle.script_text.specs.Items.{HasFewPosts}
use Rattle.script_text.specs.Led.{LedBy}
use Rattle.script_text.specs.Pushed.{KeepsRules, item_of}
use Rattle.script_text.specs.Reader.{WantsTurn, rules_at}
use Rattle.script_text.specs.inner.Judging.{PushesOn, held_with}
use Rattle.script_text.proofs.ItemReads.{ahead_kept, ahead_refilled, end_unread, ends_then, ends_told, fails_told, goes_refilled, goes_taken, has_refilled, item_told, leaves_by, no_turn_held, not_refilled, read_failed, ready_at_end, refused_behind, refused_told, rules_then, still_unmet, taken_unread, takes_by, takes_less, where_failed, where_went}
use Rattle.script_text.proofs.LedLines.{led_both, led_nowhere, led_on, led_then}
use Rattle.script_text.proofs.ReadCalls.{goes_begun}
use Rattle.script_text.proofs.ReadNeed.{ahead-none}
use Rattle.script_text.proofs.ReadStill.{uses_none}
use Rattle.script_text.proofs.reader.read_item.Goals as goal

-- ---- the end was met before

pub returns-then-has_ended-clause-told : goal.returns-then-has_ended-clause-told
returns-then-has_ended-clause-told g c =
    let ended = sym c.has_ended.ensures ∙ c.if-has_ended.true in
    ends_told c.args.script.now c.finish.new.self c.args.taken.now (g.S.Source.left c.args.source.now) c.finish.result ended (c.requires.ready.at_end ended) c.finish.ensures.told

pub returns-then-has_ended-clause-ahead : goal.returns-then-has_ended-clause-ahead
returns-then-has_ended-clause-ahead g c = ahead-none WantsTurn (held_with c.args.script.now c.args.taken.now) (g.S.Source.left c.args.source.now)

pub returns-then-has_ended-clause-takes : goal.returns-then-has_ended-clause-takes
returns-then-has_ended-clause-takes g c =
    let left = g.S.Source.left c.args.source.now in
    let old = held_with c.args.script.now c.args.taken.now in
    takes_by old left left _ _ c.finish.result (ahead-none WantsTurn old left) (omega arith) (λ is. end_unread c.args.script.now c.finish.new.self c.finish.result c.finish.ensures.told is)

pub returns-then-has_ended-clause-apart : goal.returns-then-has_ended-clause-apart
returns-then-has_ended-clause-apart g c = inr (c.requires.ready.at_end (sym c.has_ended.ensures ∙ c.if-has_ended.true))

pub returns-then-has_ended-clause-ready : goal.returns-then-has_ended-clause-ready
returns-then-has_ended-clause-ready g c =
    let ended = sym c.has_ended.ensures ∙ c.if-has_ended.true in
    ready_at_end c.finish.new.self c.args.taken.now c.finish.result c.finish.ensures.failed c.finish.ensures.ended ended (c.requires.ready.at_end ended)

pub returns-then-has_ended-clause-leaves : goal.returns-then-has_ended-clause-leaves
returns-then-has_ended-clause-leaves g c =
    let ended = sym c.has_ended.ensures ∙ c.if-has_ended.true in
    leaves_by (held_with c.args.script.now c.args.taken.now) c.finish.new.self c.args.taken.now c.finish.result c.finish.ensures.limit (λ end. ended)
    (refused_behind c.finish.new.self c.args.taken.now c.finish.result (c.requires.ready.at_end ended) c.finish.ensures.bad)

-- ---- the loop

pub pieces-init : goal.pieces-init
pieces-init g c =
    let unmet = sym c.has_ended.ensures ∙ c.if-has_ended.false in
    let old = held_with c.args.script.now c.args.taken.now in
    let left = g.S.Source.left c.args.source.now in
    record {
      began = unmet;
      going = c.requires.ready.going;
      more = c.requires.ready.same_end ∙ unmet;
      unmet = unmet;
      told = goes_begun old left;
      ahead = ahead-none WantsTurn old left;
      still = λ holds. (refl, uses_none old);
      rules = refl;
      led = led_nowhere c.args.script.now.place;
      later = omega arith;
    }

-- what was taken gave nothing, and more was read
pub pieces-preserved : goal.pieces-preserved
pieces-preserved g c =
    let left = g.S.Source.left in
    let old = held_with c.args.script.now c.args.taken.now in
    let s0 = c.pieces.script in
    let t0 = c.pieces.taken in
    let s1 = c.push_taken.new.script in
    let t1 = c.push_taken.new.taken in
    let now = c.refill.new.self in
    let On : Option ScriptItem → Type 0 = λ next. PushesOn s0 s1 t0 t1 next in
    let Kept : Option ScriptItem → Type 0 = λ next. KeepsRules (rules_at s0.place.part) (rules_at s1.place.part) (Ok next) in
    let on = subst On c.in_default.is c.in_ok-item.ensures.pushed in
    let a = left c.args.source.now in
    let b = left c.pieces.source in
    let l = left c.refill.new.source in
    let r = has_refilled t1 now b l c.refill.result c.is_err.result c.is_err.ensures.value c.if-is_err.false on.unmet c.refill.ensures.told c.refill.ensures.going in
    let goes = goes_taken old s0 s1 t0 t1 a b (λ end. absurd (false≢true (sym c.pieces.invariant.unmet ∙ end))) c.pieces.invariant.told on.told in
    let some = some_held c.is_used_up.result now.bytes c.is_used_up.ensures c.if-is_used_up.false in
    record {
      began = c.pieces.invariant.began;
      going = c.in_ok-item.ensures.failed;
      more = c.push_taken.ensures.more;
      unmet = still_unmet now some r.at_end;
      told = goes_refilled old s1 t1 now a b l on.unmet r.at_end goes r.told;
      ahead = ahead_refilled old s1 t1 now a b l on.unmet on.used.1 on.used.0 c.refill.ensures.few goes c.pieces.invariant.ahead r.told (λ end. absurd (false≢true (sym c.pieces.invariant.began ∙ end)));
      still = λ holds. absurd (no_turn_held old s0 s1 t0 t1 on.unmet on.used.0 on.used.1 (c.pieces.invariant.still holds).1 on.told holds);
      rules = subst Kept c.in_default.is c.in_ok-item.ensures.rules ∙ c.pieces.invariant.rules;
      led = led_both c.args.script.now.place s0.place s1.place [] [] c.pieces.invariant.led (led_on (held_with s0 t0) (held_with s1 t1) [] [] [] (on.told []) on.unmet);
      later = omega (arith, c.pieces.invariant.later, c.refill.ensures.later);
    }

pub pieces-smaller : goal.pieces-smaller
pieces-smaller g c =
    let s0 = c.pieces.script in
    let t0 = c.pieces.taken in
    let s1 = c.push_taken.new.script in
    let t1 = c.push_taken.new.taken in
    let now = c.refill.new.self in
    let On : Option ScriptItem → Type 0 = λ next. PushesOn s0 s1 t0 t1 next in
    let on = subst On c.in_default.is c.in_ok-item.ensures.pushed in
    let some = some_held c.is_used_up.result now.bytes c.is_used_up.ensures c.if-is_used_up.false in
    takes_less s0 s1 t0 t1 now on.count on.used.0 some c.push_taken.ensures.limit c.push_taken.ensures.short c.refill.ensures.few

-- ---- a line gives an item

pub returns-in-Some-clause-told : goal.returns-in-Some-clause-told
returns-in-Some-clause-told g c =
    let left = g.S.Source.left in
    let On : Option ScriptItem → Type 0 = λ next. PushesOn c.pieces.script c.push_taken.new.script c.pieces.taken c.push_taken.new.taken next in
    let on = subst On c.in-Some.is c.in_ok-item.ensures.pushed in
    item_told (held_with c.args.script.now c.args.taken.now) c.pieces.script c.push_taken.new.script c.pieces.taken c.push_taken.new.taken (left c.args.source.now) (left c.pieces.source) c.in-Some.item
    (λ end. absurd (false≢true (sym c.pieces.invariant.unmet ∙ end))) c.pieces.invariant.told on.told

pub returns-in-Some-clause-still : goal.returns-in-Some-clause-still
returns-in-Some-clause-still g c = λ holds. (c.pieces.invariant.still holds).0

pub returns-in-Some-clause-ahead : goal.returns-in-Some-clause-ahead
returns-in-Some-clause-ahead g c = c.pieces.invariant.ahead

pub returns-in-Some-clause-takes : goal.returns-in-Some-clause-takes
returns-in-Some-clause-takes g c = takes_by (held_with c.args.script.now c.args.taken.now) _ _ _ _ _ c.pieces.invariant.ahead c.pieces.invariant.later (λ is. absurd (cc))

pub returns-in-Some-clause-rules : goal.returns-in-Some-clause-rules
returns-in-Some-clause-rules g c =
    let Kept : Option ScriptItem → Type 0 = λ next. KeepsRules (rules_at c.pieces.script.place.part) (rules_at c.push_taken.new.script.place.part) (Ok next) in
    rules_then _ _ _ (Ok (Some c.in-Some.item)) c.pieces.invariant.rules (subst Kept c.in-Some.is c.in_ok-item.ensures.rules)

pub returns-in-Some-clause-few : goal.returns-in-Some-clause-few
returns-in-Some-clause-few g c = let Few : Option ScriptItem → Type 0 = λ next. IfSome next HasFewPosts in subst Few c.in-Some.is c.in_ok-item.ensures.few

pub returns-in-Some-clause-apart : goal.returns-in-Some-clause-apart
returns-in-Some-clause-apart g c =
    let On : Option ScriptItem → Type 0 = λ next. PushesOn c.pieces.script c.push_taken.new.script c.pieces.taken c.push_taken.new.taken next in
    let on = subst On c.in-Some.is c.in_ok-item.ensures.pushed in on.apart

pub returns-in-Some-clause-ready : goal.returns-in-Some-clause-ready
returns-in-Some-clause-ready g c =
    let On : Option ScriptItem → Type 0 = λ next. PushesOn c.pieces.script c.push_taken.new.script c.pieces.taken c.push_taken.new.taken next in
    let on = subst On c.in-Some.is c.in_ok-item.ensures.pushed in
    record { going = c.in_ok-item.ensures.failed; same_end = c.push_taken.ensures.more ∙ sym on.unmet; at_end = λ end. absurd (false≢true (sym on.unmet ∙ end)) }

pub returns-in-Some-clause-leaves : goal.returns-in-Some-clause-leaves
returns-in-Some-clause-leaves g c =
    leaves_by (held_with c.args.script.now c.args.taken.now) c.push_taken.new.script c.push_taken.new.taken (Ok (Some c.in-Some.item)) c.push_taken.ensures.limit
    (λ end. absurd (false≢true (sym c.pieces.invariant.began ∙ end))) tt

-- ---- a line is refused

pub returns-in_err-item-clause-told : goal.returns-in_err-item-clause-told
returns-in_err-item-clause-told g c =
    let left = g.S.Source.left in
    let p = err_from_is_err_and c.from_residual.result c.from_residual.ensures.1 in
    rw (p.1, p.2) (refused_told (held_with c.args.script.now c.args.taken.now) (held_with c.pieces.script c.pieces.taken) (held_with c.push_taken.new.script c.push_taken.new.taken)
    (left c.args.source.now) (left c.pieces.source) c.in_err-item.field-0.0 c.pieces.invariant.told c.in_err-item.ensures.pushed.told)

pub returns-in_err-item-clause-still : goal.returns-in_err-item-clause-still
returns-in_err-item-clause-still g c = λ holds. (c.pieces.invariant.still holds).0

pub returns-in_err-item-clause-ahead : goal.returns-in_err-item-clause-ahead
returns-in_err-item-clause-ahead g c = c.pieces.invariant.ahead

pub returns-in_err-item-clause-takes : goal.returns-in_err-item-clause-takes
returns-in_err-item-clause-takes g c =
    let p = err_from_is_err_and c.from_residual.result c.from_residual.ensures.1 in
    rw (p.1, p.2) (takes_by (held_with c.args.script.now c.args.taken.now) _ _ _ _ _ c.pieces.invariant.ahead c.pieces.invariant.later
    (λ is. taken_unread (held_with c.pieces.script c.pieces.taken) (held_with c.push_taken.new.script c.push_taken.new.taken) c.in_err-item.field-0.0 c.in_err-item.ensures.pushed.told is))

pub returns-in_err-item-clause-rules : goal.returns-in_err-item-clause-rules
returns-in_err-item-clause-rules g c =
    let p = err_from_is_err_and c.from_residual.result c.from_residual.ensures.1 in
    rw (p.1, p.2) (rules_then _ _ _ (Err c.in_err-item.field-0.0) c.pieces.invariant.rules c.in_err-item.ensures.rules)

pub returns-in_err-item-clause-apart : goal.returns-in_err-item-clause-apart
returns-in_err-item-clause-apart g c = inr c.in_err-item.ensures.pushed.none

pub returns-in_err-item-clause-leaves : goal.returns-in_err-item-clause-leaves
returns-in_err-item-clause-leaves g c =
    let p = err_from_is_err_and c.from_residual.result c.from_residual.ensures.1 in
    rw (p.1, p.2) (leaves_by (held_with c.args.script.now c.args.taken.now) c.push_taken.new.script c.push_taken.new.taken (Err c.in_err-item.field-0.0) c.push_taken.ensures.limit
    (λ end. absurd (false≢true (sym c.pieces.invariant.began ∙ end))) c.in_err-item.ensures.pushed.bad)

-- ---- a read failed

pub returns-then-is_err-clause-told : goal.returns-then-is_err-clause-told
returns-then-is_err-clause-told g c =
    let left = g.S.Source.left in
    let old = held_with c.args.script.now c.args.taken.now in
    let s0 = c.pieces.script in
    let t0 = c.pieces.taken in
    let s1 = c.push_taken.new.script in
    let t1 = c.push_taken.new.taken in
    let now = c.refill.new.self in
    let On : Option ScriptItem → Type 0 = λ next. PushesOn s0 s1 t0 t1 next in
    let on = subst On c.in_default.is c.in_ok-item.ensures.pushed in
    let a = left c.args.source.now in
    let b = left c.pieces.source in
    let l = left c.refill.new.source in
    let goes = goes_taken old s0 s1 t0 t1 a b (λ end. absurd (false≢true (sym c.pieces.invariant.unmet ∙ end))) c.pieces.invariant.told on.told in
    fails_told old s1 t1 now a b l c.pieces.invariant.began on.unmet on.used.1 goes (not_refilled t1 now b l c.refill.result c.is_err.result c.is_err.ensures.value c.if-is_err.true c.refill.ensures.told c.refill.ensures.failed)

pub returns-then-is_err-clause-still : goal.returns-then-is_err-clause-still
returns-then-is_err-clause-still g c =
    let s0 = c.pieces.script in
    let t0 = c.pieces.taken in
    let s1 = c.push_taken.new.script in
    let t1 = c.push_taken.new.taken in
    let On : Option ScriptItem → Type 0 = λ next. PushesOn s0 s1 t0 t1 next in
    let on = subst On c.in_default.is c.in_ok-item.ensures.pushed in
    λ holds. absurd (no_turn_held (held_with c.args.script.now c.args.taken.now) s0 s1 t0 t1 on.unmet on.used.0 on.used.1 (c.pieces.invariant.still holds).1 on.told holds)

pub returns-then-is_err-clause-ahead : goal.returns-then-is_err-clause-ahead
returns-then-is_err-clause-ahead g c =
    let left = g.S.Source.left in
    let now = c.refill.new.self in
    let same = not_refilled c.push_taken.new.taken now (left c.pieces.source) (left c.refill.new.source) c.refill.result c.is_err.result c.is_err.ensures.value c.if-is_err.true c.refill.ensures.told c.refill.ensures.failed in
    ahead_kept (held_with c.args.script.now c.args.taken.now) c.push_taken.new.taken now (left c.args.source.now) (left c.pieces.source) (left c.refill.new.source) c.pieces.invariant.ahead same

pub returns-then-is_err-clause-takes : goal.returns-then-is_err-clause-takes
returns-then-is_err-clause-takes g c =
    let left = g.S.Source.left in
    let now = c.refill.new.self in
    let old = held_with c.args.script.now c.args.taken.now in
    let a = left c.args.source.now in
    let b = left c.pieces.source in
    let l = left c.refill.new.source in
    let same = not_refilled c.push_taken.new.taken now b l c.refill.result c.is_err.result c.is_err.ensures.value c.if-is_err.true c.refill.ensures.told c.refill.ensures.failed in
    takes_by old a l _ _ _ (ahead_kept old c.push_taken.new.taken now a b l c.pieces.invariant.ahead same) (omega (arith, c.pieces.invariant.later, c.refill.ensures.later))
    (λ is. rose-later _ _ _ c.pieces.invariant.later (c.refill.ensures.fault (read_failed c.refill.result c.is_err.result c.is_err.ensures.value c.if-is_err.true c.refill.ensures.failed)))

pub returns-then-is_err-clause-apart : goal.returns-then-is_err-clause-apart
returns-then-is_err-clause-apart g c = inr (where_failed c.refill.result c.is_err.result c.is_err.ensures.value c.if-is_err.true c.refill.ensures.nothing)

pub returns-then-is_err-clause-leaves : goal.returns-then-is_err-clause-leaves
returns-then-is_err-clause-leaves g c =
    leaves_by (held_with c.args.script.now c.args.taken.now) c.push_taken.new.script c.refill.new.self _ c.push_taken.ensures.limit
    (λ end. absurd (false≢true (sym c.pieces.invariant.began ∙ end))) tt

-- ---- the end is met

pub returns-then-is_used_up-clause-told : goal.returns-then-is_used_up-clause-told
returns-then-is_used_up-clause-told g c =
    let left = g.S.Source.left in
    let old = held_with c.args.script.now c.args.taken.now in
    let s0 = c.pieces.script in
    let t0 = c.pieces.taken in
    let s1 = c.push_taken.new.script in
    let t1 = c.push_taken.new.taken in
    let now = c.refill.new.self in
    let On : Option ScriptItem → Type 0 = λ next. PushesOn s0 s1 t0 t1 next in
    let on = subst On c.in_default.is c.in_ok-item.ensures.pushed in
    let a = left c.args.source.now in
    let b = left c.pieces.source in
    let l = left c.refill.new.source in
    let r = has_refilled t1 now b l c.refill.result c.is_err.result c.is_err.ensures.value c.if-is_err.false on.unmet c.refill.ensures.told c.refill.ensures.going in
    let goes = goes_taken old s0 s1 t0 t1 a b (λ end. absurd (false≢true (sym c.pieces.invariant.unmet ∙ end))) c.pieces.invariant.told on.told in
    let none = c.is_used_up.ensures.0 c.if-is_used_up.true in
    ends_then old s1 c.finish-then-is_used_up.new.self now a l c.finish-then-is_used_up.result (where_went c.refill.result c.is_err.result c.is_err.ensures.value c.if-is_err.false c.refill.ensures.ended none) none (goes_refilled old s1 t1 now a b l on.unmet r.at_end goes r.told) c.finish-then-is_used_up.ensures.told

pub returns-then-is_used_up-clause-still : goal.returns-then-is_used_up-clause-still
returns-then-is_used_up-clause-still g c =
    let s0 = c.pieces.script in
    let t0 = c.pieces.taken in
    let s1 = c.push_taken.new.script in
    let t1 = c.push_taken.new.taken in
    let On : Option ScriptItem → Type 0 = λ next. PushesOn s0 s1 t0 t1 next in
    let on = subst On c.in_default.is c.in_ok-item.ensures.pushed in
    λ holds. absurd (no_turn_held (held_with c.args.script.now c.args.taken.now) s0 s1 t0 t1 on.unmet on.used.0 on.used.1 (c.pieces.invariant.still holds).1 on.told holds)

pub returns-then-is_used_up-clause-ahead : goal.returns-then-is_used_up-clause-ahead
returns-then-is_used_up-clause-ahead g c =
    let left = g.S.Source.left in
    let old = held_with c.args.script.now c.args.taken.now in
    let s0 = c.pieces.script in
    let t0 = c.pieces.taken in
    let s1 = c.push_taken.new.script in
    let t1 = c.push_taken.new.taken in
    let now = c.refill.new.self in
    let On : Option ScriptItem → Type 0 = λ next. PushesOn s0 s1 t0 t1 next in
    let on = subst On c.in_default.is c.in_ok-item.ensures.pushed in
    let a = left c.args.source.now in
    let b = left c.pieces.source in
    let l = left c.refill.new.source in
    let r = has_refilled t1 now b l c.refill.result c.is_err.result c.is_err.ensures.value c.if-is_err.false on.unmet c.refill.ensures.told c.refill.ensures.going in
    let goes = goes_taken old s0 s1 t0 t1 a b (λ end. absurd (false≢true (sym c.pieces.invariant.unmet ∙ end))) c.pieces.invariant.told on.told in
    ahead_refilled old s1 t1 now a b l on.unmet on.used.1 on.used.0 c.refill.ensures.few goes c.pieces.invariant.ahead r.told (λ end. absurd (false≢true (sym c.pieces.invariant.began ∙ end)))

pub returns-then-is_used_up-clause-takes : goal.returns-then-is_used_up-clause-takes
returns-then-is_used_up-clause-takes g c =
    let left = g.S.Source.left in
    let old = held_with c.args.script.now c.args.taken.now in
    let s0 = c.pieces.script in
    let t0 = c.pieces.taken in
    let s1 = c.push_taken.new.script in
    let t1 = c.push_taken.new.taken in
    let now = c.refill.new.self in
    let On : Option ScriptItem → Type 0 = λ next. PushesOn s0 s1 t0 t1 next in
    let on = subst On c.in_default.is c.in_ok-item.ensures.pushed in
    let a = left c.args.source.now in
    let b = left c.pieces.source in
    let l = left c.refill.new.source in
    let r = has_refilled t1 now b l c.refill.result c.is_err.result c.is_err.ensures.value c.if-is_err.false on.unmet c.refill.ensures.told c.refill.ensures.going in
    let goes = goes_taken old s0 s1 t0 t1 a b (λ end. absurd (false≢true (sym c.pieces.invariant.unmet ∙ end))) c.pieces.invariant.told on.told in
    takes_by old a l _ _ c.finish-then-is_used_up.result (ahead_refilled old s1 t1 now a b l on.unmet on.used.1 on.used.0 c.refill.ensures.few goes c.pieces.invariant.ahead r.told (λ end. absurd (false≢true (sym c.pieces.invariant.began ∙ end))))
    (omega (arith, c.pieces.invariant.later, c.refill.ensures.later)) (λ is. end_unread s1 c.finish-then-is_used_up.new.self c.finish-then-is_used_up.result c.finish-then-is_used_up.ensures.told is)

pub returns-then-is_used_up-clause-rules : goal.returns-then-is_used_up-clause-rules
returns-then-is_used_up-clause-rules g c =
    let Kept : Option ScriptItem → Type 0 = λ next. KeepsRules (rules_at c.pieces.script.place.part) (rules_at c.push_taken.new.script.place.part) (Ok next) in
    rules_then _ _ _ c.finish-then-is_used_up.result (subst Kept c.in_default.is c.in_ok-item.ensures.rules ∙ c.pieces.invariant.rules) c.finish-then-is_used_up.ensures.rules

pub returns-then-is_used_up-clause-apart : goal.returns-then-is_used_up-clause-apart
returns-then-is_used_up-clause-apart g c = inr (c.is_used_up.ensures.0 c.if-is_used_up.true)

pub returns-then-is_used_up-clause-ready : goal.returns-then-is_used_up-clause-ready
returns-then-is_used_up-clause-ready g c =
    let none = c.is_used_up.ensures.0 c.if-is_used_up.true in
    let ended = where_went c.refill.result c.is_err.result c.is_err.ensures.value c.if-is_err.false c.refill.ensures.ended none in
    ready_at_end c.finish-then-is_used_up.new.self c.refill.new.self c.finish-then-is_used_up.result c.finish-then-is_used_up.ensures.failed c.finish-then-is_used_up.ensures.ended ended none

pub returns-then-is_used_up-clause-leaves : goal.returns-then-is_used_up-clause-leaves
returns-then-is_used_up-clause-leaves g c =
    leaves_by (held_with c.args.script.now c.args.taken.now) c.finish-then-is_used_up.new.self c.refill.new.self c.finish-then-is_used_up.result c.finish-then-is_used_up.ensures.limit (λ end. absurd (false≢true (sym c.pieces.invariant.began ∙ end)))
    (refused_behind c.finish-then-is_used_up.new.self c.refill.new.self c.finish-then-is_used_up.result (c.is_used_up.ensures.0 c.if-is_used_up.true) c.finish-then-is_used_up.ensures.bad)

-- ---- where it leads

pub returns-in-Some-clause-led : goal.returns-in-Some-clause-led
returns-in-Some-clause-led g c =
    let s0 = c.pieces.script in
    let t0 = c.pieces.taken in
    let s1 = c.push_taken.new.script in
    let t1 = c.push_taken.new.taken in
    let On : Option ScriptItem → Type 0 = λ next. PushesOn s0 s1 t0 t1 next in
    let on = subst On c.in-Some.is c.in_ok-item.ensures.pushed in
    led_both c.args.script.now.place s0.place s1.place [] (item_of c.in-Some.item ∷ []) c.pieces.invariant.led
    (led_on (held_with s0 t0) (held_with s1 t1) [] [] (item_of c.in-Some.item ∷ []) (on.told []) on.unmet)

pub returns-in_err-item-clause-led : goal.returns-in_err-item-clause-led
returns-in_err-item-clause-led g c =
    let p = err_from_is_err_and c.from_residual.result c.from_residual.ensures.1 in
    subst (λ result. LedBy c.args.script.now.place c.push_taken.new.script.place result) (sym p.1) tt

pub returns-then-is_used_up-clause-led : goal.returns-then-is_used_up-clause-led
returns-then-is_used_up-clause-led g c =
    let s0 = c.pieces.script in
    let t0 = c.pieces.taken in
    let s1 = c.push_taken.new.script in
    let t1 = c.push_taken.new.taken in
    let On : Option ScriptItem → Type 0 = λ next. PushesOn s0 s1 t0 t1 next in
    let Kept : Option ScriptItem → Type 0 = λ next. KeepsRules (rules_at s0.place.part) (rules_at s1.place.part) (Ok next) in
    let on = subst On c.in_default.is c.in_ok-item.ensures.pushed in
    let led = led_both c.args.script.now.place s0.place s1.place [] [] c.pieces.invariant.led (led_on (held_with s0 t0) (held_with s1 t1) [] [] [] (on.told []) on.unmet) in
    led_then c.args.script.now.place s1.place c.finish-then-is_used_up.new.self.place c.finish-then-is_used_up.result led
    (subst Kept c.in_default.is c.in_ok-item.ensures.rules ∙ c.pieces.invariant.rules) c.finish-then-is_used_up.ensures.led
