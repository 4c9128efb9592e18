use Rattle.std.proofs.Common.{◌≡◌, ◌≤◌, ◌∙◌, List, length, refl, sym, subst, ap, arith, rules}
use Rattle.std.specs.Vec.Iter.{into_iter_items, into_iter_len}
use Rattle.std.proofs.lemmas.List.{take_all}
use Rattle.std.proofs.lemmas.Iterator.Adapters.{YieldsList-from_vec}
use Rattle.std.proofs.lemmas.Iterator.Consumers.{YieldsList-turn, YieldsList-end}
use Rattle.posts.specs.declared.posts.Post.{Post}
use Rattle.match_play.specs.Posted.{PostedState, Kept}
use Rattle.match_play.specs.Replays.{IsLastTold}
use Rattle.match_play.specs.Scripts.{IsTurnOn}
use Rattle.match_play.proofs.Replaying.{game_next, turn_keeps}
use Rattle.match_play.proofs.replayed.play.Goals as goal

pub loop-posts-init : goal.loop-posts-init
loop-posts-init c = record { game = c.in_ok-game.ensures; told = refl }

pub end_turn-requires : goal.end_turn-requires
end_turn-requires c =
    let whole = c.into_items-posts-items.ensures in
    let items : into_iter_items c.into_iter-posts-iterator.result ≡ c.into_items-posts-items.result.items = search rules in
    let count : into_iter_len c.into_iter-posts-iterator.result ≡ length c.into_items-posts-items.result.items = search rules in
    let road = YieldsList-from_vec {s = c.into_iter-posts-iterator.result} c.args.journal (items ∙ whole) (count ∙ ap length whole) in
    let next = YieldsList-turn road c.loop-posts.yielded c.loop-posts.posts-iterator c.loop-posts.yielded_by c.next.result c.next.new.self c.in-Some.posts c.in-Some.is c.next.ensures.steps in
    let on = turn_keeps (IsTurnOn c.args.map.now) c.args.journal (length c.loop-posts.yielded) c.in-Some.posts next.0 next.1 c.requires.turns in
    let keeps = subst (λ (s : PostedState). IsTurnOn s.map c.in-Some.posts) (sym c.loop-posts.invariant.game) on in
    record { lists = keeps.0; lines = keeps.1 }

pub loop-posts-preserved : goal.loop-posts-preserved
loop-posts-preserved c =
    let whole = c.into_items-posts-items.ensures in
    let items : into_iter_items c.into_iter-posts-iterator.result ≡ c.into_items-posts-items.result.items = search rules in
    let count : into_iter_len c.into_iter-posts-iterator.result ≡ length c.into_items-posts-items.result.items = search rules in
    let road = YieldsList-from_vec {s = c.into_iter-posts-iterator.result} c.args.journal (items ∙ whole) (count ∙ ap length whole) in
    let next = YieldsList-turn road c.loop-posts.yielded c.loop-posts.posts-iterator c.loop-posts.yielded_by c.next.result c.next.new.self c.in-Some.posts c.in-Some.is c.next.ensures.steps in
    let step = game_next c.args.map.now c.args.journal c.loop-posts.yielded c.in-Some.posts c.loop-posts.game c.end_turn.new.self c.in-Ok.field-0.replies
    next.0 next.1 c.loop-posts.invariant.game c.end_turn.ensures.map c.in-Ok.ensures.ok c.in-Ok.ensures.told in
    record { game = step.0; told = step.1 }

pub returns : goal.returns
returns c =
    let whole = c.into_items-posts-items.ensures in
    let items : into_iter_items c.into_iter-posts-iterator.result ≡ c.into_items-posts-items.result.items = search rules in
    let count : into_iter_len c.into_iter-posts-iterator.result ≡ length c.into_items-posts-items.result.items = search rules in
    let road = YieldsList-from_vec {s = c.into_iter-posts-iterator.result} c.args.journal (items ∙ whole) (count ∙ ap length whole) in
    let end = YieldsList-end road c.loop-posts.yielded c.loop-posts.posts-iterator c.loop-posts.yielded_by c.next.result c.next.new.self c.in-None.is c.next.ensures.steps in
    let past : length c.args.journal ≤ length c.loop-posts.yielded = omega (arith, end.1) in
    let all = take_all (length c.loop-posts.yielded) c.args.journal past in
    record {
      game = c.loop-posts.invariant.game ∙ ap (λ (j : List (List (List Post))). record { map = c.args.map.now; past = Kept j }) all;
      told = subst (λ (j : List (List (List Post))). IsLastTold c.args.map.now j c.loop-posts.told) all c.loop-posts.invariant.told;
    }
