-- The states that drivers stand for, and what is taken into them.
use Rattle.std.proofs.Common.{◌≡◌, ℕ, zero, suc, ◌<◌, List, [], ◌∷◌, ◌++◌, Option, None, Some, length, map, take, replicate, slice_index, refl, sym, ap, ◌∙◌, subst, arith, append-nil}
use Rattle.std.proofs.lemmas.List.{take-append-drop}
use Rattle.posts.specs.declared.posts.Post.{Post}
use Rattle.posts.specs.declared.replies.TurnReplies.{TurnReplies}
use Rattle.posts.specs.Maps.{Map}
use Rattle.posts.specs.Callers.{of_caller, list_of}
use Rattle.path_service.specs.declared.events.Event.{Event}
use Rattle.path_service.specs.declared.events.Event.TheVariants.{Stage}
use Rattle.path_service.specs.machine.States.{State, Run}
use Rattle.path_service.specs.machine.Effects.{IsStep, joined_up, Reaches}
use Rattle.path_service.specs.machine.Facts.{all_turns, Facts}
use Rattle.path_service.specs.machine.Arrival.{post_events, CanStage, in_stage}
use Rattle.path_service.proofs.machine.Reaching.{reach_step, reach_none, all_post, stage_step}
use Rattle.path_service.proofs.machine.Keeping.{kept_run_of}
use Rattle.path_service.specs.Services.{in_hand}
use Rattle.path_service.specs.Steps.{staging}
use Rattle.path_service.specs.inner.Holding.{AreLast, state_with}
use Rattle.path_service.proofs.HandLists.{last_wide, before_joined, hands_are, before_staged, past_first_at, no_posts}

-- posts are taken off the lanes, whatever else the state has
pub received : (m : Map) (posted all_pending got : List (List Post)) (staged : Option (List (List Post))) (running : Option Run) (journal : List (List (List Post))) (all : List TurnReplies)
    → Facts (state_with m posted all_pending staged running journal all) → AreLast posted all_pending → length got ≡ m.callers
    → Reaches (state_with m posted all_pending staged running journal all) (post_events 0 got) (state_with m (joined_up posted got) (joined_up all_pending got) staged running journal all)
received m posted all_pending got staged running journal all facts last wide =
    let s : State = state_with m posted all_pending staged running journal all in
    let each : length got ≡ length all_pending = wide ∙ sym facts.wide.posted ∙ sym (last_wide posted all_pending last) in
    subst (λ (taken : List ℕ). Reaches s (post_events 0 got) (record s { posted = joined_up posted got; taken = taken })) (sym (before_joined posted all_pending got each last))
    (all_post s got facts.wide.posted wide)

-- what holds after a run
pub facts_after : (old : State) (events : List Event) (new : State) → Facts old → Reaches old events new → Facts new
facts_after old events new facts run = kept_run_of old events run.0 new facts run.1

-- the pending posts can be staged
can_stage : (s : State) (all_pending : List (List Post)) → Facts s → in_hand s ≡ all_pending → CanStage s all_pending
can_stage s all_pending facts is = λ c. (
  [],
  append-nil (of_caller c (all_turns s) ++ list_of all_pending c)
      ∙ ap (λ (l : List Post). l ++ list_of all_pending c) (facts.posts c)
      ∙ ap (λ (l : List Post). take (slice_index s.taken c) (list_of s.posted c) ++ l) (ap (λ (l : List (List Post)). list_of l c) (sym is) ∙ past_first_at s.posted s.taken c)
      ∙ take-append-drop (slice_index s.taken c) (list_of s.posted c),
)

-- the pending posts are staged
pub staged_hands : (m : Map) (posted all_pending : List (List Post)) (running : Option Run) (journal : List (List (List Post))) (all : List TurnReplies)
    → Facts (state_with m posted all_pending None running journal all) → AreLast posted all_pending
    → Reaches (state_with m posted all_pending None running journal all) (Stage (map length all_pending) ∷ []) (state_with m posted (replicate (length all_pending) no_posts) (Some all_pending) running journal all)
staged_hands m posted all_pending running journal all facts last =
    let s : State = state_with m posted all_pending None running journal all in
    let wide : length all_pending ≡ m.callers = last_wide posted all_pending last ∙ facts.wide.posted in
    let step : IsStep s (Stage (map length all_pending)) None (in_stage s all_pending) = stage_step s all_pending facts refl wide (can_stage s all_pending facts (hands_are posted all_pending last)) in
    let new : State = state_with m posted (replicate (length all_pending) no_posts) (Some all_pending) running journal all in
    let same : in_stage s all_pending ≡ new = ap (λ (taken : List ℕ). record s { taken = taken; staged = Some all_pending }) (sym (before_staged posted all_pending last)) in
    reach_step s (Stage (map length all_pending)) None (in_stage s all_pending) [] new step (reach_none (in_stage s all_pending) new same)

-- the stage of some posts is one event
pub staging_some : (count : ℕ) (turn : List (List Post)) → 0 < count → staging count turn ≡ Stage (map length turn) ∷ []
staging_some zero turn more = absurd (omega (arith, more))
staging_some (suc count) turn more = refl

pub staging_none : (count : ℕ) (turn : List (List Post)) → count ≡ 0 → staging count turn ≡ []
staging_none zero turn none = refl
staging_none (suc count) turn none = absurd (omega (arith, none))
