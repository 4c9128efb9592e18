-- A post and a collected reply are steps of the turn machine.
use Rattle.std.proofs.Common.{◌≡◌, ℕ, ◌+◌, ◌<◌, List, [], ◌∷◌, ◌++◌, Some, length, slice_index, refl, sym, ap, ◌∙◌, arith, append_assoc, length-append}
use Rattle.std.specs.Prelude.{nat_lt, slice_get}
use Rattle.std.proofs.lemmas.Bool.{lt-ltb}
use Rattle.std.proofs.lemmas.List.{length-set, get_or-set_same, get_or_at}
use Rattle.std.proofs.lemmas.Option.{slice_get-get_or}
use Rattle.posts.specs.declared.posts.Post.{Post}
use Rattle.posts.specs.declared.replies.Reply.{Reply}
use Rattle.posts.specs.Callers.{list_of}
use Rattle.path_service.specs.declared.events.Why.TheVariants.{Callers, Collected}
use Rattle.path_service.specs.machine.States.{State}
use Rattle.path_service.specs.machine.Table.{why_no_caller, why_collected}
use Rattle.path_service.proofs.machine.Reaching.{none_or, none_unless}
use Rattle.path_service.specs.Callers.{CallerState}
use Rattle.path_service.specs.CallerSteps.{HasListsOf, PostsInStep, CollectsInStep}

pub posts_in_step : (s : State) (caller : CallerState) (post : Post) (next : List Reply) → HasListsOf s caller next → PostsInStep s caller post next
posts_in_step s caller post next has =
    let n : ℕ = caller.id.number in
    let low : n < length s.posted = let wide = has.wide.0 in let known = has.known in omega arith in
    record {
      step = record {
        enabled = none_unless (nat_lt n s.map.callers) (Callers s.map.callers) (lt-ltb n s.map.callers has.known);
        effect = (refl, refl);
      };
      lists = record {
        known = has.known;
        wide = (length-set s.posted n (list_of s.posted n ++ post ∷ []) ∙ has.wide.0, has.wide.1);
        posts = get_or-set_same s.posted n (list_of s.posted n ++ post ∷ []) [] low ∙ ap (λ (l : List Post). l ++ post ∷ []) has.posts;
        count = has.count;
        replies = has.replies;
      };
    }

pub collects_in_step : (s : State) (caller : CallerState) (reply : Reply) (next : List Reply) → HasListsOf s caller (reply ∷ next) → CollectsInStep s caller reply next
collects_in_step s caller reply next has =
    let n : ℕ = caller.id.number in
    let k : ℕ = length caller.collected in
    let replies : List Reply = list_of s.replies n in
    let low : n < length s.collected = let wide = has.wide.1 in let known = has.known in omega arith in
    let long : length replies ≡ k + length (reply ∷ next) = ap length has.replies ∙ length-append caller.collected (reply ∷ next) in
    let few : slice_index s.collected n < length replies = let count = has.count in omega arith in
    let here : slice_get replies (slice_index s.collected n) ≡ Some reply =
    ap (slice_get replies) has.count ∙ ap (λ (l : List Reply). slice_get l k) has.replies
    ∙ slice_get-get_or (caller.collected ++ reply ∷ next) k reply (let more = length-append caller.collected (reply ∷ next) in omega arith)
    ∙ ap (λ (r : Reply). Some r) (get_or_at caller.collected reply next reply k refl) in
    record {
      step = record {
        enabled = none_or (why_no_caller s.map.callers n) (why_collected (slice_index s.collected n) (length replies))
            (none_unless (nat_lt n s.map.callers) (Callers s.map.callers) (lt-ltb n s.map.callers has.known))
            (none_unless (nat_lt (slice_index s.collected n) (length replies)) (Collected (slice_index s.collected n)) (lt-ltb (slice_index s.collected n) (length replies) few));
        effect = (sym here, refl);
      };
      lists = record {
        known = has.known;
        wide = (has.wide.0, length-set s.collected n (slice_index s.collected n + 1) ∙ has.wide.1);
        posts = has.posts;
        count = get_or-set_same s.collected n (slice_index s.collected n + 1) 0 low ∙ ap (λ (j : ℕ). j + 1) has.count ∙ sym (length-append caller.collected (reply ∷ []));
        replies = has.replies ∙ sym (append_assoc caller.collected (reply ∷ []) next);
      };
    }
