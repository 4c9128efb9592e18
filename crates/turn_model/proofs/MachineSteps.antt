-- What the machine of the code holds, through its events.
use Rattle.std.proofs.Common.{◌≡◌, ℕ, ◌<◌, List, [], ◌∷◌, ◌++◌, Option, None, Some, length, set, replicate, slice_index}
use Rattle.std.proofs.Common.{slice_index_or, refl, sym, ap, ◌∙◌, subst, arith}
use Rattle.std.specs.Prelude.{nat_lt, slice_get, IsSome, ◌↔◌}
use Rattle.std.proofs.lemmas.List.{map_push}
use Rattle.std.proofs.lemmas.Option.{slice_get-get_or}
use Rattle.posts.specs.declared.posts.Post.{Post}
use Rattle.posts.specs.declared.posts.Request.{Request}
use Rattle.posts.specs.declared.replies.Answer.{Answer}
use Rattle.posts.specs.declared.replies.Answer.TheVariants.{Nowhere}
use Rattle.posts.specs.declared.replies.Reply.{Reply}
use Rattle.posts.specs.declared.replies.Reply.TheVariants.{Answer as Answered}
use Rattle.posts.specs.declared.replies.TurnReplies.{TurnReplies}
use Rattle.posts.specs.Maps.{Map}
use Rattle.posts.specs.Posts.{jobs}
use Rattle.posts.specs.Callers.{list_of}
use Rattle.grid_versions.specs.Versions.{map_state}
use Rattle.path_service.specs.declared.events.Event.{Event}
use Rattle.path_service.specs.declared.events.Event.TheVariants.{Post as Posting, Stage, Start, Claim, Finish, Deliver}
use Rattle.path_service.specs.declared.events.Event.TheVariants.{Collect}
use Rattle.path_service.specs.declared.events.Why.{Why}
use Rattle.turn_model.specs.declared.machines.running.RunningTurn.{RunningTurn}
use Rattle.turn_model.specs.declared.machines.delivered.DeliveredTurn.{DeliveredTurn}
use Rattle.turn_model.specs.declared.machines.Machine.TheInside.{Inside}
use Rattle.turn_core.specs.Solving.{IsAnswerTo, AreAnswersTo}
use Rattle.turn_core.specs.Words.{Standing, MapState, bare}
use Rattle.turn_core.specs.Turns.{after_turn, standing, IsTurnTold}
use Rattle.turn_core.specs.ReadyTurns.{Ready, after_edits_of}
use Rattle.path_service.specs.machine.States.{State, Run, stands_after_done, stands_in_run}
use Rattle.path_service.specs.machine.Table.{unless, or_else, why_not, why_none_staged, why_running, running_turn, why_no_caller}
use Rattle.path_service.specs.machine.Table.{why_no_claim, why_no_finish, why_unanswered, why_no_delivery, why_collected}
use Rattle.path_service.specs.machine.Table.{last_turn}
use Rattle.path_service.specs.machine.Effects.{joined_up, known, started, claimed, finished, delivered, collected}
use Rattle.turn_core.specs.Given.{given_turn}
use Rattle.path_service.specs.machine.Effects.{AnswersJob, IsStep, IsCollect}
use Rattle.path_service.specs.machine.Facts.{WhileRunning, Facts}
use Rattle.turn_model.specs.inner.Runs.{run_of, option_run_of, option_posts_of, version_for_next, IsReadyOn, posts_in, gathered}
use Rattle.turn_model.specs.inner.Runs.{replies_to, with_claim, IsHeldOn, HasUnclaimed, HasJob, HasPlace, AnswersAfter}
use Rattle.turn_model.specs.inner.Runs.{AnswersHeld, PutsIn, PutsAnswer, HaveCome}
use Rattle.turn_model.specs.inner.Machines.{state_of, HoldsRun, HoldsStaged, HoldsState}
use Rattle.path_service.proofs.machine.CallerLists.{none_at}
use Rattle.turn_core.proofs.Threads.{standing_more, one_turn}
use Rattle.path_service.proofs.machine.JobAnswers.{length_answers, solves_known}
use Rattle.turn_core.proofs.Answering.{given_turn_are}
use Rattle.turn_core.proofs.TurnByTurn.{answers_moved}
use Rattle.path_service.proofs.machine.Keeping.{first_none, second_none, unless_none}
use Rattle.std.proofs.lemmas.Bool.{ltb-true}
use Rattle.turn_model.proofs.DeliveredReplies.{gathered_at, gathered_push}

pub same_state : (s t : State) → s.map ≡ t.map → s.posted ≡ t.posted → s.taken ≡ t.taken → s.staged ≡ t.staged → s.running ≡ t.running → s.done ≡ t.done → s.replies ≡ t.replies → s.collected ≡ t.collected → s ≡ t
same_state s t a b c d e f g h = λ i. record { map = a i; posted = b i; taken = c i; staged = d i; running = e i; done = f i; replies = g i; collected = h i }

-- all replies to a caller are those in the delivered turns
pub caller_replies : (n : ℕ) (ds : List DeliveredTurn) (c : ℕ) → list_of (gathered (replicate n []) ds) c ≡ replies_to c ds
caller_replies n ds c = gathered_at (replicate n []) ds c ∙ ap (λ (l : List Reply). l ++ replies_to c ds) (none_at Reply n c)

-- Claims

pub unclaimed_held : (last : ℕ) (o : Option RunningTurn) → why_no_claim last (option_run_of o) ≡ None → HasUnclaimed o
unclaimed_held last None why = tt
unclaimed_held last (Some run) why =
    ltb-true run.claimed (length (jobs run.ready.turn)) (unless_none (nat_lt run.claimed (length (jobs run.ready.turn))) _ why)

pub claim_holds : (version : MapState) (o : Option RunningTurn) → HoldsRun version o → HoldsRun version (with_claim o)
claim_holds version None held = tt
claim_holds version (Some run) held = record { map = held.map; before = held.before }

pub claimed_is : (a : Inside) (o : Option RunningTurn) → a.running ≡ o → state_of (record a { running = with_claim o }) ≡ claimed (state_of a) (option_run_of o)
claimed_is a None e = ap (λ (o : Option RunningTurn). state_of (record a { running = o })) (sym e)
claimed_is a (Some run) e = refl

pub claim_stays : (version : MapState) (o : Option RunningTurn) → version_for_next version (with_claim o) ≡ version_for_next version o
claim_stays version None = refl
claim_stays version (Some run) = refl

-- the version that is held stays, and so does the staged turn
pub claimed_holds : (a : Inside) → HoldsState a → HoldsState (record a { running = with_claim a.running })
claimed_holds a holds = record {
  standing = holds.standing;
  running = claim_holds a.version a.running holds.running;
  staged = subst (λ (v : MapState). HoldsStaged v a.staged) (sym (claim_stays a.version a.running)) holds.staged;
  come = holds.come;
}

-- Finishes

pub job_held : (last job : ℕ) (version : MapState) (o : Option RunningTurn) → WhileRunning version.map version.standing (option_run_of o)
    → why_no_finish job last (option_run_of o) ≡ None → HasJob o job
job_held last job version None f why = cc
job_held last job version (Some run) f why =
    let less : job < run.claimed = ltb-true job run.claimed (unless_none (nat_lt job run.claimed) _ (first_none (unless (nat_lt job run.claimed) _) _ why)) in
    omega (arith, f.claimed)

pub place_held : (last job : ℕ) (version : MapState) (o : Option RunningTurn) → WhileRunning version.map version.standing (option_run_of o)
    → why_no_finish job last (option_run_of o) ≡ None → HasPlace o job
place_held last job version None f why = cc
place_held last job version (Some run) f why =
    let less : job < run.claimed = ltb-true job run.claimed (unless_none (nat_lt job run.claimed) _ (first_none (unless (nat_lt job run.claimed) _) _ why)) in
    omega (arith, f.claimed, length_answers version.map (after_turn version.map version.standing run.ready.turn) (jobs run.ready.turn) run.answers.items f.answers)

pub put_holds : (version : MapState) (old new : Option RunningTurn) (job : ℕ) (answer : Answer) → PutsAnswer old new job answer → HoldsRun version old → HoldsRun version new
put_holds version None new job answer puts held = absurd puts
put_holds version (Some old) None job answer puts held = absurd puts
put_holds version (Some old) (Some new) job answer puts held = record {
  map = ap (λ (r : Ready). r.map) puts.ready ∙ held.map;
  before = ap (λ (r : Ready). r.before) puts.ready ∙ held.before;
}

put_stays : (version : MapState) (old new : Option RunningTurn) (job : ℕ) (answer : Answer) → PutsAnswer old new job answer → version_for_next version new ≡ version_for_next version old
put_stays version None new job answer puts = absurd puts
put_stays version (Some old) None job answer puts = absurd puts
put_stays version (Some old) (Some new) job answer puts = ap (λ (r : Ready). map_state r.map (after_edits_of r)) puts.ready

pub finished_holds : (a : Inside) (new : Option RunningTurn) (job : ℕ) (answer : Answer) → PutsAnswer a.running new job answer → HoldsState a → HoldsState (record a { running = new })
finished_holds a new job answer puts holds = record {
  standing = holds.standing;
  running = put_holds a.version a.running new job answer puts holds.running;
  staged = subst (λ (v : MapState). HoldsStaged v a.staged) (sym (put_stays a.version a.running new job answer puts)) holds.staged;
  come = holds.come;
}

put_run : (old new : RunningTurn) (job : ℕ) (answer : Answer) → PutsIn old new job answer → run_of new ≡ record (run_of old) { answers = set old.answers.items job (Some answer) }
put_run old new job answer puts = λ i. record { turn = (puts.ready i).turn; claimed = puts.claimed i; answers = puts.answers i }

pub finished_is : (a : Inside) (old new : Option RunningTurn) (job : ℕ) (answer : Answer) → PutsAnswer old new job answer
    → state_of (record a { running = new }) ≡ finished (state_of a) job answer (option_run_of old)
finished_is a None new job answer puts = absurd puts
finished_is a (Some old) None job answer puts = absurd puts
finished_is a (Some old) (Some new) job answer puts = ap (λ (r : Run). record (state_of a) { running = Some r }) (put_run old new job answer puts)

answers_step : (m : Map) (final : Standing) (ready : Ready) (job : ℕ) (answer : Answer) (o : Option Request) → slice_get (jobs ready.turn) job ≡ o → ready.map ≡ m → after_edits_of ready ≡ final
    → AnswersAfter ready o answer → (request : Request) × ((slice_get (jobs ready.turn) job ≡ Some request) × IsAnswerTo m final request answer)
answers_step m final ready job answer None e f g x = absurd x
answers_step m final ready job answer (Some q) e f g x =
    (q, (e, subst (λ (n : Map). IsAnswerTo n final q answer) f (subst (λ (s : Standing). IsAnswerTo ready.map s q answer) g x)))

-- what stands after the turn that is held, on the version on which it is held
stands_on : (version : MapState) (run : RunningTurn) → IsHeldOn version run → after_edits_of run.ready ≡ after_turn version.map version.standing run.ready.turn
stands_on version run held =
    ap (λ (m : Map). after_turn m run.ready.before run.ready.turn) held.map
    ∙ ap (λ (s : Standing). after_turn version.map s run.ready.turn) held.before

stands_after : (a : Inside) (run : RunningTurn) → HoldsState a → IsHeldOn a.version run → after_edits_of run.ready ≡ stands_in_run (state_of a) (run_of run)
stands_after a run holds held = stands_on a.version run held ∙ ap (λ (s : Standing). after_turn a.version.map s run.ready.turn) holds.standing

pub answers_job : (a : Inside) (job : ℕ) (answer : Answer) (o : Option RunningTurn) → HoldsState a → HoldsRun a.version o → AnswersHeld o job answer → AnswersJob (state_of a) job answer (option_run_of o)
answers_job a job answer None holds held x = absurd x
answers_job a job answer (Some run) holds held x =
    answers_step a.version.map (stands_in_run (state_of a) (run_of run)) run.ready job answer (slice_get (jobs run.ready.turn) job)
    refl held.map (stands_after a run holds held) x

-- what holds of the running turn, on the version that is held
pub while_held : (a : Inside) → HoldsState a → Facts (state_of a) → WhileRunning a.version.map a.version.standing (option_run_of a.running)
while_held a holds f = subst (λ (s : Standing). WhileRunning a.version.map s (option_run_of a.running)) (sym holds.standing) f.running

-- Starts

-- no turn runs where one can start
not_running : (number : ℕ) (o : Option RunningTurn) → why_running number (option_run_of o) ≡ None → o ≡ None
not_running number None e = refl
not_running number (Some run) e = cc

pub start_none : (s : State) → why_not s Start ≡ None → (o : Option RunningTurn) → s.running ≡ option_run_of o → o ≡ None
start_none s why o e =
    not_running (running_turn s) o
    (ap (why_running (running_turn s)) (sym e) ∙ second_none (why_none_staged (last_turn s) s.staged) (why_running (running_turn s) s.running) why)

pub started_holds : (a : Inside) (ready : RunningTurn) → HoldsState a → a.staged ≡ Some ready → a.running ≡ None → (b : Inside) → b.version ≡ a.version → b.delivered ≡ a.delivered → b.running ≡ Some ready → b.staged ≡ None
    → HaveCome b.delivered.items b.collected.items b.places.items → HoldsState b
started_holds a ready holds is none b version delivered running staged come =
    let ready_on : IsReadyOn a.version ready =
    subst (λ (o : Option RunningTurn). HoldsStaged (version_for_next a.version o) (Some ready)) none (subst (HoldsStaged (version_for_next a.version a.running)) is holds.staged) in
    record {
      standing = ap (λ (v : MapState). v.standing) version ∙ holds.standing
          ∙ ap (λ (v : MapState). standing v.map bare (posts_in a.delivered.items)) (sym version)
          ∙ ap (λ (d : _). standing b.version.map bare (posts_in d.items)) (sym delivered);
      running = subst (HoldsRun b.version) (sym running) (subst (λ (v : MapState). IsHeldOn v ready) (sym version) ready_on.held_on);
      staged = subst (HoldsStaged (version_for_next b.version b.running)) (sym staged) tt;
      come = come;
    }

pub started_is : (a b : Inside) (ready : RunningTurn) → HoldsState a → a.staged ≡ Some ready → a.running ≡ None
    → b.version ≡ a.version → b.posted ≡ a.posted → b.taken ≡ a.taken → b.staged ≡ None → b.running ≡ Some ready → b.delivered ≡ a.delivered → b.collected ≡ a.collected
    → state_of b ≡ started (state_of a) (state_of a).staged
started_is a b ready holds is none version posted taken staged running delivered collected =
    let ready_on : IsReadyOn a.version ready =
    subst (λ (o : Option RunningTurn). HoldsStaged (version_for_next a.version o) (Some ready)) none (subst (HoldsStaged (version_for_next a.version a.running)) is holds.staged) in
    same_state (state_of b) (started (state_of a) (Some ready.ready.turn))
    (ap (λ (v : MapState). v.map) version) (ap (λ (v : _). v.items) posted) (ap (λ (v : _). v.items) taken) (ap option_posts_of staged)
    (ap option_run_of running ∙ ap (λ (r : Run). Some r) ready_on.begins)
    (ap (λ (d : _). posts_in d.items) delivered)
    (ap (λ (v : MapState). gathered (replicate v.map.callers []) b.delivered.items) version ∙ ap (λ (d : _). gathered (replicate a.version.map.callers []) d.items) delivered)
    (ap (λ (v : _). v.items) collected)
    ∙ ap (λ (o : Option RunningTurn). started (state_of a) (option_posts_of o)) (sym is)

-- Deliveries

-- the version after the edits of a turn, by its map and what stands on it
pub version_is : (version : MapState) (ready : Ready) → version.map ≡ ready.map → version.standing ≡ after_edits_of ready → version ≡ map_state ready.map (after_edits_of ready)
version_is version ready map stands = λ i. record { map = map i; standing = stands i }

-- all jobs of a turn that can be delivered are answered
pub all_answered : (a : Inside) (run : RunningTurn) → a.running ≡ Some run → why_not (state_of a) Deliver ≡ None → why_unanswered 0 run.answers.items ≡ None
all_answered a run is why =
    second_none (unless _ _) (why_unanswered 0 run.answers.items)
    (subst (λ (o : Option RunningTurn). why_no_delivery (last_turn (state_of a)) (option_run_of o) ≡ None) is why)

-- and the answers are those to its jobs
pub answers_given : (a : Inside) (run : RunningTurn) → HoldsState a → Facts (state_of a) → a.running ≡ Some run → IsHeldOn a.version run → why_not (state_of a) Deliver ≡ None
    → AreAnswersTo run.ready.map (after_edits_of run.ready) (jobs run.ready.turn) (known run.answers.items)
answers_given a run holds f is held why =
    let m : Map = a.version.map in
    let before : Standing = a.version.standing in
    let qs : List Request = jobs run.ready.turn in
    let running = subst (λ (o : Option RunningTurn). WhileRunning m before (option_run_of o)) is (while_held a holds f) in
    let final : Standing = after_turn m before run.ready.turn in
    answers_moved (map_state m final) run.ready.map (after_edits_of run.ready) qs qs (known run.answers.items)
    (sym held.map) (sym (stands_on a.version run held)) refl
    (solves_known m final qs run.answers.items 0 running.answers (all_answered a run is why))

pub delivered_holds : (a : Inside) (run : RunningTurn) (after : MapState) (ds : List DeliveredTurn) (turn : DeliveredTurn) → HoldsState a → IsHeldOn a.version run
    → after.map ≡ run.ready.map → after.standing ≡ after_edits_of run.ready → ds ≡ a.delivered.items ++ turn ∷ [] → turn.posts ≡ run.ready.turn
    → after.standing ≡ standing after.map bare (posts_in ds)
delivered_holds a run after ds turn holds held map stands pushed same =
    stands
    ∙ stands_after a run holds held
    ∙ sym (standing_more a.version.map bare (posts_in a.delivered.items) run.ready.turn)
    ∙ ap (λ (t : List (List Post)). standing a.version.map bare (posts_in a.delivered.items ++ t ∷ [])) (sym same)
    ∙ ap (standing a.version.map bare) (sym (map_push (λ (d : DeliveredTurn). d.posts) a.delivered.items turn))
    ∙ ap (λ (l : List DeliveredTurn). standing a.version.map bare (posts_in l)) (sym pushed)
    ∙ ap (λ (m : Map). standing m bare (posts_in ds)) (sym (map ∙ held.map))

-- the replies that a running turn is told are those that the answers to its jobs give
told_given : (a : Inside) (run : RunningTurn) (told : TurnReplies) → HoldsState a → IsHeldOn a.version run
    → AreAnswersTo run.ready.map (after_edits_of run.ready) (jobs run.ready.turn) (known run.answers.items) → IsTurnTold run.ready.map run.ready.before run.ready.turn told
    → told.replies ≡ given_turn a.version.map (stands_after_done (state_of a)) run.ready.turn (known run.answers.items)
told_given a run told holds held are is =
    let ready : Ready = run.ready in
    let answers : List Answer = known run.answers.items in
    one_turn ready.map (after_edits_of ready) ready.before ready.turn told.replies (given_turn ready.map ready.before ready.turn answers) is.replies
    (given_turn_are ready.map (after_edits_of ready) ready.before ready.turn answers are)
    ∙ ap (λ (n : Map). given_turn n ready.before ready.turn answers) held.map
    ∙ ap (λ (s : Standing). given_turn a.version.map s ready.turn answers) (held.before ∙ holds.standing)

pub delivered_is : (a b : Inside) (run : RunningTurn) (turn : DeliveredTurn) (told : TurnReplies) → HoldsState a → IsHeldOn a.version run → a.running ≡ Some run
    → b.version.map ≡ run.ready.map → b.posted ≡ a.posted → b.taken ≡ a.taken → b.staged ≡ a.staged → b.running ≡ None → b.collected ≡ a.collected
    → b.delivered.items ≡ a.delivered.items ++ turn ∷ [] → turn.posts ≡ run.ready.turn → turn.replies ≡ told.replies
    → AreAnswersTo run.ready.map (after_edits_of run.ready) (jobs run.ready.turn) (known run.answers.items) → IsTurnTold run.ready.map run.ready.before run.ready.turn told
    → state_of b ≡ delivered (state_of a) (state_of a).running
delivered_is a b run turn told holds held is map posted taken staged none collected pushed posts replies are telling =
    let m : Map = a.version.map in
    let map_is : b.version.map ≡ m = map ∙ held.map in
    let given : turn.replies ≡ given_turn m (stands_after_done (state_of a)) run.ready.turn (known run.answers.items) =
    replies ∙ told_given a run told holds held are telling in
    let lists : List (List Reply) = gathered (replicate m.callers []) a.delivered.items in
    same_state (state_of b) (delivered (state_of a) (Some (run_of run)))
    map_is (ap (λ (v : _). v.items) posted) (ap (λ (v : _). v.items) taken) (ap option_posts_of staged) (ap option_run_of none)
    (ap posts_in pushed ∙ map_push (λ (d : DeliveredTurn). d.posts) a.delivered.items turn ∙ ap (λ (t : List (List Post)). posts_in a.delivered.items ++ t ∷ []) posts)
    (ap (λ (n : Map). gathered (replicate n.callers []) b.delivered.items) map_is
    ∙ ap (gathered (replicate m.callers [])) pushed
    ∙ gathered_push (replicate m.callers []) a.delivered.items turn
    ∙ ap (joined_up lists) given)
    (ap (λ (v : _). v.items) collected)
    ∙ ap (λ (o : Option RunningTurn). delivered (state_of a) (option_run_of o)) (sym is)

-- Collects

pub reply_left : (s : State) (c : ℕ) → or_else (why_no_caller s.map.callers c) (why_collected (slice_index s.collected c) (length (list_of s.replies c))) ≡ None
    → slice_get (list_of s.replies c) (slice_index s.collected c) ≡ None → ⊥
reply_left s c why none =
    let k : ℕ = slice_index s.collected c in
    let replies : List Reply = list_of s.replies c in
    let less : k < length replies = ltb-true k (length replies) (unless_none (nat_lt k (length replies)) _ (second_none (why_no_caller s.map.callers c) _ why)) in
    let found = slice_get-get_or replies k (Answered Nowhere) less in
    cc

pub caller_is : (s : State) (c : ℕ) (rest : Option Why) → or_else (why_no_caller s.map.callers c) rest ≡ None → c < s.map.callers
caller_is s c rest why = ltb-true c s.map.callers (unless_none (nat_lt c s.map.callers) _ (first_none (why_no_caller s.map.callers c) rest why))

-- a caller who can collect has a place
pub place_within : (a : Inside) (c i : ℕ) → HoldsState a → Facts (state_of a) → why_not (state_of a) (Collect c) ≡ None → i ≡ c
    → i < length a.places.items
place_within a c i holds f why is =
    let within : c < a.version.map.callers = caller_is (state_of a) c _ why in
    let wide : length a.collected.items ≡ a.version.map.callers = f.wide.collected in
    omega (arith, within, wide, is, holds.come.wide)

-- Replies handed out

none_handed : (h : Option Reply) → h ≡ None → IsSome h → ⊥
none_handed None e x = cc
none_handed (Some r) e x = cc

some_handed : (h : Option Reply) (r : Reply) → h ≡ Some r → IsSome h
some_handed h r e = subst IsSome (sym e) refl

-- a reply is handed out exactly where the event is a collect
pub handed_is : (old : State) (event : Event) (handed : Option Reply) (new : State) → IsStep old event handed new → IsSome handed ↔ IsCollect event
handed_is old (Posting c p) handed new step = (none_handed handed step.effect.0, λ x. absurd x)
handed_is old (Stage takes) handed new step = (none_handed handed step.effect.0, λ x. absurd x)
handed_is old Start handed new step = (none_handed handed step.effect.0, λ x. absurd x)
handed_is old Claim handed new step = (none_handed handed step.effect.0, λ x. absurd x)
handed_is old (Finish job) handed new step = (none_handed handed step.effect.0, λ x. absurd x)
handed_is old Deliver handed new step = (none_handed handed step.effect.0, λ x. absurd x)
handed_is old (Collect c) handed new step =
    let k : ℕ = slice_index old.collected c in
    let replies : List Reply = list_of old.replies c in
    let less : k < length replies = ltb-true k (length replies) (unless_none (nat_lt k (length replies)) _ (second_none (why_no_caller old.map.callers c) _ step.enabled)) in
    (λ x. tt, λ x. some_handed handed (slice_index_or replies k (Answered Nowhere)) (step.effect.0 ∙ slice_get-get_or replies k (Answered Nowhere) less))
