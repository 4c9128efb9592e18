use Rattle.std.proofs.Common.{◌≡◌, List, [], ◌∷◌, length, sym, ap, ◌∙◌, subst, arith, rules, length-append}
use Rattle.std.specs.Vec.Iter.{into_iter_items, into_iter_len}
use Rattle.std.proofs.lemmas.List.{nil_from_length}
use Rattle.posts.specs.declared.posts.Post.{Post}
use Rattle.path_service.specs.Callers.{CallerId, CallerState}
use Rattle.pathserve.specs.inner.Begun.{BeginAll}
use Rattle.pathserve.specs.inner.Works.{HaveAllPosted}
use Rattle.pathserve.proofs.BegunWorks.{ended_none, ended_more, ended_all}
use Rattle.pathserve.proofs.works.join_all.Goals as goal

pub loop-begun-init : goal.loop-begun-init
loop-begun-init g c =
    let works = into_iter_items c.into_iter-begun-iterator.result in
    let all : works ≡ c.args.works.items = c.into_iter-begun-iterator.ensures.into_iter_gives.0 in
    let few : into_iter_len c.into_iter-begun-iterator.result ≡ length c.args.works.items = search rules in
    let ended = c.in_ok-callers.ensures in
    record {
      ended = ended_none c.args.works.items works c.in_ok-callers.callers.items all ended.items;
      left = few ∙ ap length (sym all);
      room = omega (arith, ap length all, ap length ended.items, ended.capacity, c.len.ensures);
    }

pub push_reserved-requires : goal.push_reserved-requires
push_reserved-requires g c = omega (arith, c.loop-begun.invariant.room, ap length c.in-Some.ensures.steps.0)

pub loop-begun-preserved : goal.loop-begun-preserved
loop-begun-preserved g c =
    let before = c.loop-begun.invariant in
    let left = c.in-Some.ensures.steps.0 in
    let pushed = c.push_reserved.ensures in
    record {
      ended = ended_more c.args.works.items (into_iter_items c.loop-begun.begun-iterator) (into_iter_items c.next.new.self) c.loop-begun.callers.items c.push_reserved.new.self.items c.in-Some.begun c.join_work.result
          left pushed.items c.join_work.ensures before.ended;
      left = omega (arith, before.left, ap length left, c.in-Some.ensures.steps.1);
      room = omega (arith, before.room, ap length left, ap length pushed.items, length-append c.loop-begun.callers.items (c.join_work.result ∷ []), pushed.capacity);
    }

pub returns : goal.returns
returns g c =
    let none : into_iter_items c.loop-begun.begun-iterator ≡ [] = nil_from_length _ (sym c.loop-begun.invariant.left ∙ c.in-None.ensures.steps.0) in
    subst (λ (callers : List CallerState). (ids : List CallerId) (lists : List (List Post)) → BeginAll ids lists c.args.works.items → HaveAllPosted ids lists callers)
    (sym c.from.ensures)
    (ended_all c.args.works.items (into_iter_items c.loop-begun.begun-iterator) c.loop-begun.callers.items none c.loop-begun.invariant.ended)
