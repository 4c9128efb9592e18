use Rattle.std.proofs.Common.{◌≡◌, ◌<◌, [], length, sym, ap, ◌∙◌, arith, rules}
use Rattle.std.specs.Vec.Iter.{into_iter_items, into_iter_len}
use Rattle.std.specs.Iterator.Adapters.{enumerate_source, enumerate_count}
use Rattle.std.proofs.lemmas.List.{nil_from_length}
use Rattle.pathserve.proofs.JoinedPosts.{joins_none, joins_less, joins_more, joins_all}
use Rattle.pathserve.proofs.serving.append_turn.Goals as goal

pub loop-caller-init : goal.loop-caller-init
loop-caller-init c =
    let all = c.into_iter-caller-iterator.result in
    let same = c.into_iter-caller-iterator.ensures.into_iter_gives in
    let source = c.enumerate-caller-items.ensures.source in
    let items : into_iter_items (enumerate_source all) ≡ c.into_items.result.items =
    ap (λ (e : _). into_iter_items (enumerate_source e)) same ∙ ap into_iter_items source ∙ c.into_iter.ensures.rest in
    let few : into_iter_len c.into_iter.result ≡ length c.into_items.result.items = search rules in
    let none : enumerate_count all ≡ 0 = ap (λ (e : _). enumerate_count e) same ∙ c.enumerate-caller-items.ensures.count in
    record {
      joins = joins_none c.args.lists.now.items c.args.turn (into_iter_items (enumerate_source all)) (enumerate_count all) (items ∙ c.into_items.ensures) none;
      left = ap (λ (e : _). into_iter_len (enumerate_source e)) same ∙ ap into_iter_len source ∙ few ∙ ap length (sym items);
    }

pub append_posts-requires : goal.append_posts-requires
append_posts-requires c =
    let all = c.loop-caller.caller-iterator in
    let next = c.in-Some.ensures.steps in
    let less : enumerate_count all < length c.loop-caller.lists.items =
    joins_less c.args.lists.now.items c.args.turn c.loop-caller.lists.items (into_iter_items (enumerate_source all)) (into_iter_items (enumerate_source c.next.new.self)) c.in-Some.posts (enumerate_count all)
    c.loop-caller.invariant.joins next.0.0 c.requires in
    omega (arith, less, next.1)

pub loop-caller-preserved : goal.loop-caller-preserved
loop-caller-preserved c =
    let all = c.loop-caller.caller-iterator in
    let before = c.loop-caller.invariant in
    let next = c.in-Some.ensures.steps in
    let now = c.loop-caller.lists.items in
    record {
      joins = joins_more c.args.lists.now.items c.args.turn now c.append_posts.new.lists.items (into_iter_items (enumerate_source all)) (into_iter_items (enumerate_source c.next.new.self)) c.in-Some.posts
          c.in-Some.caller (enumerate_count all) (enumerate_count c.next.new.self) before.joins next.0.0 c.requires next.1 c.in_ok-append_posts.ensures next.2;
      left = omega (arith, before.left, ap length next.0.0, next.0.1);
    }

pub returns : goal.returns
returns c =
    let all = c.loop-caller.caller-iterator in
    let none : into_iter_items (enumerate_source all) ≡ [] = nil_from_length (into_iter_items (enumerate_source all)) (sym c.loop-caller.invariant.left ∙ c.in-None.ensures.steps.0.0) in
    joins_all c.args.lists.now.items c.args.turn c.loop-caller.lists.items (into_iter_items (enumerate_source all)) (enumerate_count all) c.loop-caller.invariant.joins none
