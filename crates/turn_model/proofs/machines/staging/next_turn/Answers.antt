use Rattle.std.proofs.Common.{◌≡◌, ℕ, ◌+◌, ◌≤◌, List, [], ◌∷◌, ◌++◌, length, map, take, drop, slice_index, ap, ◌∙◌, arith}
use Rattle.posts.specs.declared.posts.Post.{Post}
use Rattle.path_service.specs.machine.Effects.{next_posts, added_up}
use Rattle.turn_model.proofs.StagedTurns.{turn_more, taken_more, turn_end, taken_end}
use Rattle.turn_model.proofs.machines.staging.next_turn.Goals as goal

pub loop-caller-preserved : goal.loop-caller-preserved
loop-caller-preserved c =
    let pss = c.args.posted.now in
    let ts = c.args.taken.now in
    let ks = c.args.takes.now in
    let i = c.loop-caller.caller in
    let ps = c.index-posted-caller.result in
    let part = c.part_of-part.result.now in
    let rest = next_posts (drop (i + 1) pss) (drop (i + 1) ts) (drop (i + 1) ks) in
    let cut : part ≡ take (slice_index ks i) (drop (slice_index ts i) ps) = cc in
    let made = c.loop-caller.next in
    let raised : c.push.new.self.taken.items ≡ made.taken.items ++ (slice_index ts i + length part) ∷ [] =
    c.in_ok-push.ensures.taken ∙ ap (λ (n : ℕ). made.taken.items ++ (n + length part) ∷ []) c.number_at-from.ensures.value in
    record {
      turn = ap (λ (l : List (List Post)). l ++ rest) c.in_ok-push.ensures.turn ∙ turn_more pss ts ks i ps made.turn (next_posts pss ts ks) part c.loop-caller-test.true c.index-posted-caller.is cut c.loop-caller.invariant.turn;
      taken = ap (λ (l : List ℕ). l ++ added_up (drop (i + 1) ts) (map length rest)) raised
          ∙ taken_more pss ts ks i ps made.taken.items (added_up ts (map length (next_posts pss ts ks))) part (slice_index ts i + length part) c.loop-caller-test.true c.requires c.index-posted-caller.is cut (λ _. slice_index ts i + length part) c.loop-caller.invariant.taken;
    }

pub returns : goal.returns
returns c =
    let pss = c.args.posted.now in
    let ts = c.args.taken.now in
    let ks = c.args.takes.now in
    let i = c.loop-caller.caller in
    let made = c.loop-caller.next in
    let past : length pss ≤ i = omega arith in
    record {
      turn = turn_end pss ts ks i made.turn (next_posts pss ts ks) past c.loop-caller.invariant.turn;
      taken = taken_end pss ts ks i made.taken.items (added_up ts (map length (next_posts pss ts ks))) past c.requires c.loop-caller.invariant.taken;
    }
