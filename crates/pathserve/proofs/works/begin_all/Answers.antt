use Rattle.std.proofs.Common.{◌≡◌, ◌+◌, List, [], ◌∷◌, All, length, map, drop, get_or, refl, sym, ap, ◌∙◌, subst, arith, rules, length-append}
use Rattle.std.specs.Vec.Iter.{into_iter_items, into_iter_len}
use Rattle.std.proofs.lemmas.List.{nil_from_length, drop_all, drop_more}
use Rattle.posts.specs.declared.posts.Post.{Post}
use Rattle.path_service.specs.Callers.{caller_id}
use Rattle.std.proofs.lemmas.List.Elements.{All-head, All-tail}
use Rattle.pathserve.specs.inner.Works.{HasPostedNone, IsShort}
use Rattle.pathserve.specs.inner.Begun.{BeginAll}
use Rattle.pathserve.proofs.BegunWorks.{begun_none, begun_more, begun_all}
use Rattle.pathserve.proofs.works.begin_all.Goals as goal

pub loop-list-init : goal.loop-list-init
loop-list-init g c =
    let callers = into_iter_items c.into_iter-callers.result in
    let lists = c.as_slice-lists.result.now in
    let same : callers ≡ c.args.callers = c.into_iter-callers.ensures.rest ∙ c.into_items.ensures in
    let count : into_iter_len c.into_iter-callers.result ≡ length c.into_items.result.items = search rules in
    record {
      begun = begun_none c.args.callers callers lists lists c.in_ok-works.works.items same refl c.in_ok-works.ensures.items;
      first = subst (All HasPostedNone) (sym same) c.requires.first;
      wide = omega (arith, ap length same, c.requires.wide, ap length c.as_slice-lists.ensures);
      left = count ∙ ap length (sym c.into_iter-callers.ensures.rest);
      count = ap length c.in_ok-works.ensures.items;
      room = omega (arith, c.in_ok-works.ensures.capacity);
    }

pub unreachable-requires : goal.unreachable-requires
unreachable-requires g c =
    let before = c.loop-list.invariant in
    let none : into_iter_items c.loop-list.callers ≡ [] = nil_from_length _ (sym before.left ∙ c.in_default.ensures.cases.0) in
    omega (arith, ap length none, before.wide, c.loop-list-test.true)

pub begin-requires : goal.begin-requires
begin-requires g c =
    let i = c.loop-list.list-index in
    let item = c.list-item.result in
    let caller = c.in-Some.caller in
    let same = c.as_slice-lists.ensures in
    let first : HasPostedNone caller = All-head HasPostedNone caller (into_iter_items c.next.new.self) (subst (All HasPostedNone) c.in-Some.ensures.items c.loop-list.invariant.first) in
    let at : item ≡ get_or c.args.posts.now i item = c.list-item.is ∙ ap (λ (l : List (List Post)). get_or l i item) same in
    let room : IsShort item = subst IsShort (sym at) (c.requires.room i item (omega (arith, c.loop-list-test.true, ap length same))) in
    (c.type_bounds.sync-R, (c.type_bounds.sync-G, (first, room)))

pub push_reserved-requires : goal.push_reserved-requires
push_reserved-requires g c =
    omega (arith, c.loop-list.invariant.count, c.loop-list.invariant.room, c.loop-list-test.true)

pub loop-list-preserved : goal.loop-list-preserved
loop-list-preserved g c =
    let before = c.loop-list.invariant in
    let i = c.loop-list.list-index in
    let lists = c.as_slice-lists.result.now in
    let item = c.list-item.result in
    let caller = c.in-Some.caller in
    let next = into_iter_items c.next.new.self in
    let callers = c.in-Some.ensures.items in
    let left : drop i lists ≡ item ∷ drop (i + 1) lists =
    drop_more lists i item c.loop-list-test.true ∙ ap (λ (p : List Post). p ∷ drop (i + 1) lists) (sym c.list-item.is) in
    record {
      begun = begun_more c.args.callers (into_iter_items c.loop-list.callers) next lists (drop i lists) (drop (i + 1) lists) c.loop-list.works.items c.push_reserved.new.self.items
          caller item c.begin.result callers left c.push_reserved.ensures.items c.begin.ensures before.begun;
      first = All-tail HasPostedNone caller next (subst (All HasPostedNone) callers before.first);
      wide = omega (arith, before.wide, ap length callers);
      left = omega (arith, before.left, ap length callers, c.in-Some.ensures.cases.1);
      count = omega (arith, before.count, ap length c.push_reserved.ensures.items, length-append c.loop-list.works.items (c.begin.result ∷ []));
      room = omega (arith, before.room, c.push_reserved.ensures.capacity);
    }

pub returns : goal.returns
returns g c =
    let before = c.loop-list.invariant in
    let i = c.loop-list.list-index in
    let lists = c.as_slice-lists.result.now in
    let works = c.loop-list.works.items in
    let past = c.loop-list-test.false in
    let callers : into_iter_items c.loop-list.callers ≡ [] = nil_from_length (into_iter_items c.loop-list.callers) (omega (arith, before.wide, past)) in
    subst (λ (l : List (List Post)). BeginAll (map caller_id c.args.callers) l works) c.as_slice-lists.ensures
    (begun_all c.args.callers (into_iter_items c.loop-list.callers) lists (drop i lists) works callers (drop_all i lists past) before.begun)
