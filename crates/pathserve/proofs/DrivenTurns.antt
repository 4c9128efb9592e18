-- Drivers that stage, start and deliver turns.
use Rattle.std.proofs.Common.{◌≡◌, ℕ, zero, suc, ◌+◌, ◌<◌, ◌≤◌, false, List, [], ◌∷◌, ◌++◌, Option, None, Some, All, sum_by, refl, sym, ap, ◌∙◌, subst, arith}
use Rattle.std.specs.Prelude.{IsSome, ◌↔◌}
use Rattle.std.proofs.lemmas.List.Elements.{All-push}
use Rattle.std.proofs.lemmas.List.Sums.{sum_by_push}
use Rattle.nav_types.specs.declared.limits.TheConstants.{MAX_STAGED_POSTS}
use Rattle.posts.specs.declared.posts.Post.{Post}
use Rattle.posts.specs.declared.replies.Reply.{Reply}
use Rattle.posts.specs.Posts.{post_count}
use Rattle.path_service.specs.declared.events.Event.{Event}
use Rattle.path_service.specs.declared.events.Event.TheVariants.{Post as Posting, Stage, Start, Claim, Finish, Deliver, Collect}
use Rattle.path_service.specs.machine.States.{State, Run}
use Rattle.path_service.specs.machine.Effects.{IsStep, IsMachineRun, joined_up, delivered}
use Rattle.path_service.specs.machine.Arrival.{posts_of, post_events, answered_run, in_run}
use Rattle.path_service.specs.Services.{DriverState, in_hand, with_machine}
use Rattle.path_service.specs.Steps.{staging, HasStaged, HasStarted, HasDelivered}
use Rattle.std.proofs.lemmas.Bool.{both_ways}
use Rattle.pathserve.specs.Serving.{HasPost}
use Rattle.pathserve.specs.inner.Sessions.{Stages, HasComeTo}

-- ---- events that take posts in

-- the map and the turns that are done are as they were
record Keeps (old new : State) : Type 0 where
  on_map : new.map ≡ old.map
  done : new.done ≡ old.done

-- the event is a post or a stage
abbrev TakesIn : Event → Type 0
TakesIn (Posting caller post) = Unit {0}
TakesIn (Stage takes) = Unit {0}
TakesIn Start = ⊥
TakesIn Claim = ⊥
TakesIn (Finish job) = ⊥
TakesIn Deliver = ⊥
TakesIn (Collect caller) = ⊥

-- so is each of them
abbrev AllTakeIn : List Event → Type 0
AllTakeIn [] = Unit {0}
AllTakeIn (e ∷ events) = TakesIn e × AllTakeIn events

kept_by_step : (old : State) (e : Event) (handed : Option Reply) (new : State) → TakesIn e → IsStep old e handed new → Keeps old new
kept_by_step old (Posting caller post) handed new takes step = record { on_map = ap (λ (s : State). s.map) step.effect.1; done = ap (λ (s : State). s.done) step.effect.1 }
kept_by_step old (Stage counts) handed new takes step = record { on_map = ap (λ (s : State). s.map) step.effect.1; done = ap (λ (s : State). s.done) step.effect.1 }
kept_by_step old Start handed new takes step = absurd takes
kept_by_step old Claim handed new takes step = absurd takes
kept_by_step old (Finish job) handed new takes step = absurd takes
kept_by_step old Deliver handed new takes step = absurd takes
kept_by_step old (Collect caller) handed new takes step = absurd takes

kept_by_run : (old : State) (events : List Event) (handed : List (Option Reply)) (new : State) → AllTakeIn events → IsMachineRun old events handed new → Keeps old new
kept_by_run old [] [] new takes run = record { on_map = ap (λ (s : State). s.map) (sym run); done = ap (λ (s : State). s.done) (sym run) }
kept_by_run old [] (h ∷ handed) new takes run = absurd run
kept_by_run old (e ∷ events) [] new takes run = absurd run
kept_by_run old (e ∷ events) (h ∷ handed) new takes run =
    let one : Keeps old run.0 = kept_by_step old e h run.0 takes.0 run.1.0 in
    let more : Keeps run.0 new = kept_by_run run.0 events handed new takes.1 run.1.1 in
    record { on_map = more.on_map ∙ one.on_map; done = more.done ∙ one.done }

both_take_in : (events more : List Event) → AllTakeIn events → AllTakeIn more → AllTakeIn (events ++ more)
both_take_in [] more x y = y
both_take_in (e ∷ events) more x y = (x.0, both_take_in events more x.1 y)

posts_take_in : (c : ℕ) (ps : List Post) → AllTakeIn (posts_of c ps)
posts_take_in c [] = tt
posts_take_in c (p ∷ ps) = (tt, posts_take_in c ps)

all_posts_take_in : (c : ℕ) (got : List (List Post)) → AllTakeIn (post_events c got)
all_posts_take_in c [] = tt
all_posts_take_in c (ps ∷ got) = both_take_in (posts_of c ps) (post_events (c + 1) got) (posts_take_in c ps) (all_posts_take_in (c + 1) got)

stage_takes_in : (count : ℕ) (turn : List (List Post)) → AllTakeIn (staging count turn)
stage_takes_in zero turn = tt
stage_takes_in (suc more) turn = (tt, tt)

kept_by_stage : (told : List ℕ) (old new : State) (count : ℕ) → HasStaged told old new count → Keeps old new
kept_by_stage told old new count k =
    let turn : List (List Post) = joined_up (in_hand old) k.got in
    kept_by_run old (post_events 0 k.got ++ staging count turn) k.run.0 new
    (both_take_in (post_events 0 k.got) (staging count turn) (all_posts_take_in 0 k.got) (stage_takes_in count turn))
    k.run.1

-- ---- what is staged

stages_so : (count : ℕ) (turn : List (List Post)) (o : Option (List (List Post))) → count ≡ post_count turn → count ≤ MAX_STAGED_POSTS → IsSome o ↔ (0 < count)
    → (0 < count → o ≡ Some turn) → Stages count o
stages_so zero turn None e most some is = refl
stages_so (suc n) turn None e most some is = absurd (both_ways false refl (some.1 (omega arith)))
stages_so count turn (Some other) e most some is =
    let less : 0 < count = some.0 refl in
    subst (Stages count) (sym (is less)) (e, (less, most))

stages_after : (told : List ℕ) (old new : State) (count : ℕ) → HasStaged told old new count → Stages count new.staged
stages_after told old new count k = stages_so count (joined_up (in_hand old) k.got) new.staged k.number k.most k.staged k.turn

-- ---- drivers

-- a turn is staged
pub come_to_stage : (start d new : DriverState) (number before count : ℕ) → HasComeTo start d number before → HasStaged d.told d.machine new.machine count
    → new ≡ with_machine d new.machine → HasComeTo start new number count
come_to_stage start d new number before count k staged rest =
    let kept : Keeps d.machine new.machine = kept_by_stage d.told d.machine new.machine count staged in
    record {
      on_map = kept.on_map ∙ k.on_map;
      callers = ap (λ (x : DriverState). x.callers) rest ∙ k.callers;
      sound = ap (λ (x : DriverState). x.failed) rest ∙ k.sound;
      idle = staged.running ∙ k.idle;
      staged = stages_after d.told d.machine new.machine count staged;
      some = subst (All HasPost) (sym kept.done) k.some;
      count = k.count ∙ ap (sum_by post_count) (sym kept.done);
    }

-- so many posts are in the staged turn
turn_count : (count : ℕ) (o : Option (List (List Post))) (turn : List (List Post)) → o ≡ Some turn → Stages count o → (count ≡ post_count turn) × (0 < count)
turn_count count o turn e k =
    let is : Stages count (Some turn) = subst (Stages count) e k in
    (is.0, is.1.0)

-- the staged turn is started and delivered, and the next is staged beside it
pub come_to_turn : (start d mid new : DriverState) (number count next : ℕ) → HasComeTo start d number count → HasStarted d.told d.machine mid.machine next
    → mid ≡ with_machine d mid.machine → HasDelivered mid new → HasComeTo start new (number + count) next
come_to_turn start d mid new number count next k begins rest ends =
    let turn : List (List Post) = begins.turn in
    let run : Run = answered_run turn begins.answers in
    let runs : State = in_run d.machine run in
    let kept : Keeps runs mid.machine = kept_by_stage d.told runs mid.machine next begins.next in
    let has : (count ≡ post_count turn) × (0 < count) = turn_count count d.machine.staged turn begins.staged k.staged in
    let is : new.machine ≡ delivered mid.machine (Some run) = ends.step.effect.1 ∙ ap (delivered mid.machine) begins.next.running in
    let done : new.machine.done ≡ d.machine.done ++ turn ∷ [] = ap (λ (s : State). s.done) is ∙ ap (λ (l : List (List (List Post))). l ++ turn ∷ []) kept.done in
    record {
      on_map = ap (λ (s : State). s.map) is ∙ kept.on_map ∙ k.on_map;
      callers = ap (λ (x : DriverState). x.callers) ends.sent ∙ ap (λ (x : DriverState). x.callers) rest ∙ k.callers;
      sound = ap (λ (x : DriverState). x.failed) ends.sent ∙ ap (λ (x : DriverState). x.failed) rest ∙ k.sound;
      idle = ap (λ (s : State). s.running) is;
      staged = subst (Stages next) (sym (ap (λ (s : State). s.staged) is)) (stages_after d.told runs mid.machine next begins.next);
      some = subst (All HasPost) (sym done) (All-push HasPost d.machine.done turn k.some (omega (arith, has)));
      count = omega (arith, k.count, has, ap (sum_by post_count) done, sum_by_push post_count d.machine.done turn);
    }
