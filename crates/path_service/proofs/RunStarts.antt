-- Drivers that start the staged turn.
use Rattle.std.proofs.Common.{◌≡◌, ℕ, true, false, List, [], ◌++◌, Option, None, Some, refl, sym, ap, ◌∙◌, subst, inl, inr}
use Rattle.std.proofs.lemmas.Bool.{both_ways}
use Rattle.posts.specs.declared.posts.Post.{Post}
use Rattle.posts.specs.declared.replies.TurnReplies.{TurnReplies}
use Rattle.posts.specs.Posts.{jobs}
use Rattle.posts.specs.Callers.{of_caller, list_of}
use Rattle.grid_versions.specs.Versions.{map_state}
use Rattle.path_service.specs.declared.events.Event.TheVariants.{Start}
use Rattle.turn_core.specs.Solving.{AreAnswersTo}
use Rattle.turn_core.specs.Words.{MapState, bare}
use Rattle.turn_core.specs.Turns.{after_turn, standing, replies_in}
use Rattle.turn_core.specs.ReadyTurns.{Ready}
use Rattle.path_service.specs.machine.States.{State, stands_after_done}
use Rattle.path_service.specs.machine.Effects.{IsStep, Reaches, begun}
use Rattle.path_service.specs.machine.Facts.{Facts}
use Rattle.path_service.specs.machine.Arrival.{answering, answered_run, in_run}
use Rattle.path_service.proofs.machine.Reaching.{start_step, turn_answered}
use Rattle.turn_core.proofs.TurnByTurn.{same_version}
use Rattle.path_service.proofs.machine.Keeping.{kept}
use Rattle.path_service.specs.declared.runs.AnsweredRun.{AnsweredRun}
use Rattle.path_service.specs.declared.drivers.Driver.TheInside.{Inside}
use Rattle.path_service.specs.Services.{DriverState}
use Rattle.path_service.specs.Closings.{HasSent}
use Rattle.path_service.specs.inner.Running.{version_for_next, HoldsRun}
use Rattle.path_service.specs.inner.Holding.{turn_of, run_of, machine_of, driver_of, HoldsReady, HoldsStaged, HoldsDriver}
use Rattle.path_service.proofs.HeldStates.{facts_after}

-- while a driver has not failed, it has sent all replies and no more
pub none_more : (d : DriverState) (all : List TurnReplies) (sent : HasSent d all) → d.failed ≡ false → sent.more ≡ []
none_more d all sent sound = elim sent.begins [ inl e ↦ e | inr x ↦ absurd (both_ways d.failed sound x.0) ]

pub sent_all : (d : DriverState) (all : List TurnReplies) → HasSent d all → d.failed ≡ false → (c : ℕ) → list_of d.sent c ≡ of_caller c (replies_in all) ++ []
sent_all d all sent sound c = sent.sent c ∙ ap (λ (l : List (List _)). of_caller c (replies_in all) ++ list_of l c) (none_more d all sent sound)

pub no_run : (o : Option AnsweredRun) (b : Option (List (List Post))) → run_of o b ≡ None → (o ≡ None) × (b ≡ None)
no_run None None e = (refl, refl)
no_run None (Some turn) e = cc
no_run (Some run) b e = cc

-- the version that is held is the one after the turns that are delivered
pub version_is : (a : Inside) → HoldsDriver a → a.version ≡ map_state a.map (standing a.map bare a.journal.items)
version_is a holds = same_version a.version a.map (standing a.map bare a.journal.items) holds.map holds.standing

-- the staged turn, where there is one, is ready on that version
pub ready_on : (a : Inside) (ready : Ready) → HoldsDriver a → a.failed ≡ false → a.staged ≡ Some ready → a.running ≡ None → HoldsReady a.version ready
ready_on a ready holds sound is none =
    subst (HoldsStaged a.version) is
    (subst (λ (o : Option AnsweredRun). HoldsStaged (version_for_next a.version o) a.staged) none (holds.staged sound))

run_held : (a : Inside) (ready : Ready) (run : AnsweredRun) → HoldsReady a.version ready → HoldsRun (map_state ready.map ready.before) run → HoldsRun a.version run
run_held a ready run on held = subst (λ (v : MapState). HoldsRun v run) (sym (same_version a.version ready.map ready.before (sym on.map) (sym on.before))) held

-- the driver once the staged turn runs, with its answers
pub run_starts : (a b : Inside) (ready : Ready) (run : AnsweredRun) → HoldsDriver a → a.failed ≡ false → a.staged ≡ Some ready → run_of a.running a.broken ≡ None → run.posts ≡ ready.turn
    → HoldsRun (map_state ready.map ready.before) run → b ≡ record a { staged = None; running = Some run }
    → Reaches (machine_of a) (answering run.posts) (in_run (machine_of a) (answered_run run.posts run.answers.value)) × HoldsDriver b
run_starts a b ready run holds sound is none posts held same =
    let on : HoldsReady a.version ready = ready_on a ready holds sound is (no_run a.running a.broken none).0 in
    let own : HoldsRun a.version run = run_held a ready run on held in
    let s : State = machine_of a in
    let staged : s.staged ≡ Some run.posts = ap turn_of is ∙ ap (λ (t : List (List Post)). Some t) (sym posts) in
    let answers : AreAnswersTo s.map (after_turn s.map (stands_after_done s) run.posts) (jobs run.posts) run.answers.value =
    subst (λ (v : MapState). AreAnswersTo v.map (after_turn v.map v.standing run.posts) (jobs run.posts) run.answers.value) (version_is a holds) own.answers in
    let way : Reaches s (answering run.posts) (in_run s (answered_run run.posts run.answers.value)) = turn_answered s run.posts run.answers.value staged none answers in
    let c : Inside = record a { staged = None; running = Some run } in
    let held_now : HoldsDriver c = record {
      facts = facts_after s (answering run.posts) (in_run s (answered_run run.posts run.answers.value)) holds.facts way;
      map = holds.map;
      standing = holds.standing;
      answered = holds.answered;
      running = own;
      broken = holds.broken;
      staged = λ e. tt;
      last = holds.last;
      few = holds.few;
      room = holds.room;
      sent = record {
        more = [];
        sent = sent_all (driver_of a) a.replies.items holds.sent sound;
        begins = inl refl;
      };
    } in
    (way, subst HoldsDriver (sym same) held_now)

-- the driver once the staged turn is started, and has no answers
pub run_breaks : (a b : Inside) (ready : Ready) (turn : List (List Post)) → HoldsDriver a → a.failed ≡ false → a.staged ≡ Some ready → run_of a.running a.broken ≡ None → turn ≡ ready.turn
    → b ≡ record a { staged = None; broken = Some turn; failed = true }
    → IsStep (machine_of a) Start None (in_run (machine_of a) (begun turn)) × (HoldsDriver b × (machine_of b ≡ in_run (machine_of a) (begun turn)))
run_breaks a b ready turn holds sound is none posts same =
    let s : State = machine_of a in
    let free : a.running ≡ None = (no_run a.running a.broken none).0 in
    let staged : s.staged ≡ Some turn = ap turn_of is ∙ ap (λ (t : List (List Post)). Some t) (sym posts) in
    let step : IsStep s Start None (in_run s (begun turn)) = start_step s turn staged none in
    let c : Inside = record a { staged = None; broken = Some turn; failed = true } in
    let now : machine_of c ≡ in_run s (begun turn) = ap (λ (o : Option AnsweredRun). record s { staged = None; running = run_of o (Some turn) }) free in
    let held_now : HoldsDriver c = record {
      facts = subst Facts (sym now) (kept s Start None (in_run s (begun turn)) holds.facts step);
      map = holds.map;
      standing = holds.standing;
      answered = holds.answered;
      running = holds.running;
      broken = refl;
      staged = λ e. absurd (both_ways true e refl);
      last = holds.last;
      few = holds.few;
      room = holds.room;
      sent = record {
        more = [];
        sent = sent_all (driver_of a) a.replies.items holds.sent sound;
        begins = inl refl;
      };
    } in
    (step, (subst HoldsDriver (sym same) held_now, ap machine_of same ∙ now))
