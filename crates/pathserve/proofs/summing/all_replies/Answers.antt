use Rattle.std.proofs.Common.{◌≡◌, ◌<◌, ◌≤◌, ◌^◌, ◌∙◌, [], ◌∷◌, List, length, sym, subst, ap, arith, rules, length-append}
use Rattle.std.specs.Vec.Iter.{into_iter_items, into_iter_len}
use Rattle.std.proofs.lemmas.List.{take_all}
use Rattle.std.proofs.lemmas.Iterator.Adapters.{YieldsList-from_vec}
use Rattle.std.proofs.lemmas.Iterator.Consumers.{YieldsList-turn, YieldsList-end}
use Rattle.posts.specs.declared.posts.Post.{Post}
use Rattle.posts.specs.declared.replies.TurnReplies.{TurnReplies}
use Rattle.posts.specs.Posts.{jobs}
use Rattle.turn_core.specs.Turns.{IsOneThread}
use Rattle.turn_core.proofs.TurnByTurn.{HasAnswered, none_answered}
use Rattle.pathserve.proofs.AnsweredTurns.{next_answered, one_of_all}
use Rattle.pathserve.proofs.summing.all_replies.Goals as goal

pub loop-posts-init : goal.loop-posts-init
loop-posts-init g c =
    let all = c.in_ok-all.ensures in
    record {
      has = subst (λ (told : List TurnReplies). HasAnswered c.args.map.now [] c.in_ok-version.version told) (sym all.items)
          (none_answered c.args.map.now c.in_ok-version.version c.in_ok-version.ensures.map c.in_ok-version.ensures.standing);
      count = ap length all.items;
      takes = c.requires.takes;
      room = omega (arith, all.capacity, c.len.ensures);
    }

pub noted_turn-requires : goal.noted_turn-requires
noted_turn-requires g c =
    let whole = c.into_items-posts-items.ensures in
    let items : into_iter_items c.into_iter-posts-iterator.result ≡ c.into_items-posts-items.result.items = search rules in
    let count : into_iter_len c.into_iter-posts-iterator.result ≡ length c.into_items-posts-items.result.items = search rules in
    let road = YieldsList-from_vec {s = c.into_iter-posts-iterator.result} c.args.journal (items ∙ whole) (count ∙ ap length whole) in
    let next = YieldsList-turn road c.loop-posts.yielded c.loop-posts.posts-iterator c.loop-posts.yielded_by c.next.result c.next.new.self c.in-Some.posts c.in-Some.is c.next.ensures.steps in
    let few : length (jobs c.in-Some.posts) < 2 ^ 32 =
    one_of_all (λ turn. length (jobs turn) < 2 ^ 32) c.args.journal (length c.loop-posts.yielded) c.in-Some.posts next.0 next.1 c.requires.few in
    record { takes = c.loop-posts.invariant.takes (length (jobs c.in-Some.posts)) few }

pub push_reserved-requires : goal.push_reserved-requires
push_reserved-requires g c =
    let whole = c.into_items-posts-items.ensures in
    let items : into_iter_items c.into_iter-posts-iterator.result ≡ c.into_items-posts-items.result.items = search rules in
    let count : into_iter_len c.into_iter-posts-iterator.result ≡ length c.into_items-posts-items.result.items = search rules in
    let road = YieldsList-from_vec {s = c.into_iter-posts-iterator.result} c.args.journal (items ∙ whole) (count ∙ ap length whole) in
    let next = YieldsList-turn road c.loop-posts.yielded c.loop-posts.posts-iterator c.loop-posts.yielded_by c.next.result c.next.new.self c.in-Some.posts c.in-Some.is c.next.ensures.steps in
    let below : length c.loop-posts.yielded < length c.args.journal = next.0 in
    omega (arith, below, c.loop-posts.invariant.count, c.loop-posts.invariant.room)

pub loop-posts-preserved : goal.loop-posts-preserved
loop-posts-preserved g c =
    let whole = c.into_items-posts-items.ensures in
    let items : into_iter_items c.into_iter-posts-iterator.result ≡ c.into_items-posts-items.result.items = search rules in
    let count : into_iter_len c.into_iter-posts-iterator.result ≡ length c.into_items-posts-items.result.items = search rules in
    let road = YieldsList-from_vec {s = c.into_iter-posts-iterator.result} c.args.journal (items ∙ whole) (count ∙ ap length whole) in
    let next = YieldsList-turn road c.loop-posts.yielded c.loop-posts.posts-iterator c.loop-posts.yielded_by c.next.result c.next.new.self c.in-Some.posts c.in-Some.is c.next.ensures.steps in
    let before = c.loop-posts.invariant in
    let told = c.in_ok-replies.field-0.replies in
    let pushed = c.push_reserved.ensures in
    record {
      has = next_answered c.args.map.now c.args.journal c.loop-posts.yielded c.in-Some.posts c.loop-posts.version c.in_ok-replies.field-0.after
          c.loop-posts.all.items c.push_reserved.new.self.items told next.0 next.1 before.has c.in_ok-replies.ensures.map
          c.in_ok-replies.ensures.standing c.in_ok-replies.ensures.told pushed.items;
      count = omega (arith, before.count, ap length pushed.items, length-append c.loop-posts.all.items (told ∷ []), length-append c.loop-posts.yielded (c.in-Some.posts ∷ []));
      takes = λ n fits. c.noted_turn.ensures.takes n (before.takes n fits);
      room = omega (arith, before.room, pushed.capacity);
    }

pub returns : goal.returns
returns g c =
    let whole = c.into_items-posts-items.ensures in
    let items : into_iter_items c.into_iter-posts-iterator.result ≡ c.into_items-posts-items.result.items = search rules in
    let count : into_iter_len c.into_iter-posts-iterator.result ≡ length c.into_items-posts-items.result.items = search rules in
    let road = YieldsList-from_vec {s = c.into_iter-posts-iterator.result} c.args.journal (items ∙ whole) (count ∙ ap length whole) in
    let end = YieldsList-end road c.loop-posts.yielded c.loop-posts.posts-iterator c.loop-posts.yielded_by c.next.result c.next.new.self c.in-None.is c.next.ensures.steps in
    let past : length c.args.journal ≤ length c.loop-posts.yielded = omega (arith, end.1) in
    subst (IsOneThread c.args.map.now c.args.journal) (sym c.from.ensures)
    (subst (λ (j : List (List (List Post))). IsOneThread c.args.map.now j c.loop-posts.all.items) (take_all (length c.loop-posts.yielded) c.args.journal past)
    c.loop-posts.invariant.has.answered)
