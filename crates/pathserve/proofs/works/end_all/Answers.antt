use Rattle.std.proofs.Common.{◌≡◌, List, [], ◌∷◌, length, sym, ap, ◌∙◌, refl, subst, arith, rules, length-append}
use Rattle.std.specs.List.{AllByRecursion}
use Rattle.std.specs.Vec.Iter.{into_iter_items, into_iter_len}
use Rattle.std.proofs.lemmas.List.{nil_from_length}
use Rattle.path_service.specs.Callers.{CallerId, CallerState}
use Rattle.path_service.specs.Services.{DriverState}
use Rattle.pathserve.specs.inner.Works.{AllEndWith, EndsWith}
use Rattle.pathserve.proofs.EndedCallers.{IsPlaced, ended_none, ended_more, ended_all, placed}
use Rattle.pathserve.proofs.works.end_all.Goals as goal

pub loop-caller-init : goal.loop-caller-init
loop-caller-init g c =
    let callers = into_iter_items c.into_iter-caller-iterator.result in
    let all : callers ≡ c.args.callers = c.into_iter-caller-iterator.ensures.into_iter_gives.0 ∙ c.into_items-caller-items.ensures in
    let few : into_iter_len c.into_iter-caller-iterator.result ≡ length c.into_items-caller-items.result.items = search rules in
    let ended = c.in_ok-ended.ensures in
    record {
      driver = refl;
      placed = subst (AllByRecursion (IsPlaced c.args.driver.now.callers)) (sym all) (placed c.args.driver.now.callers c.args.callers c.requires.callers c.requires.numbers);
      ended = ended_none c.args.driver.now.sent c.args.callers callers c.in_ok-ended.ended.items all ended.items;
      left = few ∙ ap length (sym c.into_iter-caller-iterator.ensures.into_iter_gives.0);
      room = omega (arith, ap length all, ap length ended.items, ended.capacity, c.len.ensures);
    }

head_placed : (ids : List CallerId) (later next : List CallerState) (caller : CallerState) → later ≡ caller ∷ next → AllByRecursion (IsPlaced ids) later
    → IsPlaced ids caller × AllByRecursion (IsPlaced ids) next
head_placed ids later next caller is all = subst (AllByRecursion (IsPlaced ids)) is all

pub end-requires : goal.end-requires
end-requires g c =
    let before = c.loop-caller.invariant in
    subst (λ (d : DriverState). IsPlaced d.callers c.in-Some.caller) (sym before.driver)
    (head_placed c.args.driver.now.callers _ _ c.in-Some.caller c.in-Some.ensures.steps.0 before.placed).0

pub push_reserved-requires : goal.push_reserved-requires
push_reserved-requires g c = omega (arith, c.loop-caller.invariant.room, ap length c.in-Some.ensures.steps.0)

pub loop-caller-preserved : goal.loop-caller-preserved
loop-caller-preserved g c =
    let before = c.loop-caller.invariant in
    let left = c.in-Some.ensures.steps.0 in
    let pushed = c.push_reserved.ensures in
    record {
      driver = c.end.ensures.driver ∙ before.driver;
      placed = (head_placed c.args.driver.now.callers _ _ c.in-Some.caller left before.placed).1;
      ended = ended_more c.args.driver.now.sent c.args.callers (into_iter_items c.loop-caller.caller-iterator) (into_iter_items c.next.new.self)
          c.loop-caller.ended.items c.push_reserved.new.self.items c.in-Some.caller c.end.result left pushed.items
          (subst (λ (d : DriverState). EndsWith d.sent c.in-Some.caller c.end.result) before.driver c.end.ensures.ended) before.ended;
      left = omega (arith, before.left, ap length left, c.in-Some.ensures.steps.1);
      room = omega (arith, before.room, ap length left, ap length pushed.items, length-append c.loop-caller.ended.items (c.end.result ∷ []), pushed.capacity);
    }

pub returns-clause-ended : goal.returns-clause-ended
returns-clause-ended g c =
    let none : into_iter_items c.loop-caller.caller-iterator ≡ [] = nil_from_length _ (sym c.loop-caller.invariant.left ∙ c.in-None.ensures.steps.0) in
    subst (AllEndWith c.args.driver.now.sent c.args.callers) (sym c.from.ensures)
    (ended_all c.args.driver.now.sent c.args.callers (into_iter_items c.loop-caller.caller-iterator) c.loop-caller.ended.items none c.loop-caller.invariant.ended)

pub returns-clause-driver : goal.returns-clause-driver
returns-clause-driver g c = c.loop-caller.invariant.driver
