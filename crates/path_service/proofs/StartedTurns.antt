-- Drivers that start a turn and take in the next beside it.
use Rattle.std.proofs.Common.{◌≡◌, ℕ, true, false, List, None, Some, Result, Ok, Err, refl, sym, ap, ◌∙◌, subst, inl, inr, ◌⊎◌, IfOk}
use Rattle.std.specs.Prelude.{OnErr}
use Rattle.nav_types.specs.declared.sequences.NoMemory.{NoMemory}
use Rattle.posts.specs.declared.posts.Post.{Post}
use Rattle.posts.specs.Maps.{Map}
use Rattle.grid_versions.specs.Versions.{map_state}
use Rattle.turn_core.specs.Words.{Standing, MapState}
use Rattle.turn_core.specs.Turns.{after_turn}
use Rattle.turn_core.specs.ReadyTurns.{Ready, after_edits_of}
use Rattle.path_service.specs.machine.States.{State}
use Rattle.path_service.specs.machine.Effects.{begun}
use Rattle.path_service.specs.machine.Arrival.{in_run}
use Rattle.path_service.specs.declared.channels.Channel.{Channel}
use Rattle.path_service.specs.declared.intakes.TurnIntake.{TurnIntake}
use Rattle.path_service.specs.declared.runs.AnsweredRun.{AnsweredRun}
use Rattle.path_service.specs.declared.drivers.Driver.TheInside.{Inside}
use Rattle.path_service.specs.Services.{DriverState, with_machine}
use Rattle.path_service.specs.Steps.{HasReceived, HasStaged, HasStarted, HasBrokenOff}
use Rattle.path_service.specs.inner.Channels.{told_in}
use Rattle.path_service.specs.inner.Intakes.{HasTakenIn}
use Rattle.path_service.specs.inner.Running.{version_for_next, HoldsRun}
use Rattle.path_service.specs.inner.Holding.{turn_of, run_of, machine_of, driver_of, HoldsDriver}
use Rattle.path_service.proofs.RunStarts.{run_starts, run_breaks}
use Rattle.std.proofs.lemmas.Bool.{both_ways}
use Rattle.path_service.proofs.NextTurns.{Known, Went, taken_in, leaves, same_rest}

pub went_ok : (told : List ℕ) (old new : State) (r : Result ℕ NoMemory) → Went told old new r → IfOk r (HasStaged told old new)
went_ok told old new (Ok count) went = went
went_ok told old new (Err refused) went = tt

pub went_err : (told : List ℕ) (old new : State) (r : Result ℕ NoMemory) → Went told old new r → OnErr r (HasReceived old new)
went_err told old new (Ok count) went = tt
went_err told old new (Err refused) went = went

went_either : (told : List ℕ) (old new : State) (r : Result ℕ NoMemory) → Went told old new r → ((count : ℕ) × HasStaged told old new count) ⊎ HasReceived old new
went_either told old new (Ok count) went = inl (count, went)
went_either told old new (Err refused) went = inr went

pub taken_from : (m : Map) (s : Standing) (channels own : List Channel) (all_pending held : List (List Post)) (intake : TurnIntake) → channels ≡ own → all_pending ≡ held → HasTakenIn m s channels all_pending intake → HasTakenIn m s own held intake
taken_from m s channels own all_pending held intake p h taken =
    subst (λ (l : List Channel). HasTakenIn m s l held intake) p (subst (λ (l : List (List Post)). HasTakenIn m s channels l intake) h taken)

-- what is known of an intake where nothing is staged, by what the driver gave for it
pub known_of : (a : Inside) (d : DriverState) (base : MapState) (channels : List Channel) (all_pending : List (List Post)) (intake : TurnIntake) → driver_of a ≡ d → d.machine.staged ≡ None → HoldsDriver a
    → base.map ≡ (version_for_next a.version a.running).map → base.standing ≡ (version_for_next a.version a.running).standing → channels ≡ a.channels.items → all_pending ≡ a.all_pending.items
    → HasTakenIn base.map base.standing channels all_pending intake → Known a base.map base.standing intake
known_of a d base channels all_pending intake view none holds p q r s taken = record {
  holds = holds;
  none = subst (λ (e : DriverState). e.machine.staged ≡ None) (sym view) none;
  base = λ sound. (sym p, sym q);
  taken = taken_from base.map base.standing channels a.channels.items all_pending a.all_pending.items intake r s taken;
}

pub staged_ok : (a : Inside) (d : DriverState) (m : Map) (s : Standing) (intake : TurnIntake) → driver_of a ≡ d → Known a m s intake → IfOk intake.count (HasStaged d.told d.machine (machine_of (taken_in a intake)))
staged_ok a d m s intake view k =
    subst (λ (e : DriverState). IfOk intake.count (HasStaged e.told e.machine (machine_of (taken_in a intake)))) view
    (went_ok (told_in a.channels.items) (machine_of a) (machine_of (taken_in a intake)) intake.count (leaves a m s intake k).went)

pub staged_refused : (a : Inside) (d : DriverState) (m : Map) (s : Standing) (intake : TurnIntake) → driver_of a ≡ d → Known a m s intake → OnErr intake.count (HasReceived d.machine (machine_of (taken_in a intake)))
staged_refused a d m s intake view k =
    subst (λ (e : DriverState). OnErr intake.count (HasReceived e.machine (machine_of (taken_in a intake)))) view
    (went_err (told_in a.channels.items) (machine_of a) (machine_of (taken_in a intake)) intake.count (leaves a m s intake k).went)

pub staged_rest : (a : Inside) (d : DriverState) (m : Map) (s : Standing) (intake : TurnIntake) → driver_of a ≡ d → Known a m s intake → driver_of (taken_in a intake) ≡ with_machine d (machine_of (taken_in a intake))
staged_rest a d m s intake view k = same_rest a m s intake k ∙ ap (λ (e : DriverState). with_machine e (machine_of (taken_in a intake))) view

-- the driver with the answered turn, and before the next is taken in
abbrev pub with_run : Inside → AnsweredRun → Inside
with_run a run = record a { staged = None; running = Some run }

-- the driver with a turn that has no answers
abbrev pub with_broken : Inside → List (List Post) → Inside
with_broken a turn = record a { staged = None; broken = Some turn; failed = true }

-- what is known where the staged turn is started and the next one is taken in beside it
pub record Begins (a : Inside) (ready : Ready) (intake : TurnIntake) : Type 0 where
  pub holds : HoldsDriver a
  pub sound : a.failed ≡ false
  pub staged : a.staged ≡ Some ready
  pub none : run_of a.running a.broken ≡ None
  pub taken : HasTakenIn ready.map (after_edits_of ready) a.channels.items a.all_pending.items intake

pub begins_of : (a : Inside) (d : DriverState) (ready : Ready) (intake : TurnIntake) (channels : List Channel) (all_pending : List (List Post)) → driver_of a ≡ d → d.failed ≡ false → d.machine.running ≡ None → HoldsDriver a
    → Some ready ≡ a.staged → channels ≡ a.channels.items → all_pending ≡ a.all_pending.items → HasTakenIn ready.map (after_edits_of ready) channels all_pending intake → Begins a ready intake
begins_of a d ready intake channels all_pending view sound none holds is p h taken = record {
  holds = holds;
  sound = subst (λ (e : DriverState). e.failed ≡ false) (sym view) sound;
  staged = sym is;
  none = subst (λ (e : DriverState). e.machine.running ≡ None) (sym view) none;
  taken = taken_from ready.map (after_edits_of ready) channels a.channels.items all_pending a.all_pending.items intake p h taken;
}

pub started_known : (a : Inside) (ready : Ready) (run : AnsweredRun) (intake : TurnIntake) → Begins a ready intake → run.posts ≡ ready.turn → HoldsRun (map_state ready.map ready.before) run
    → Known (with_run a run) ready.map (after_edits_of ready) intake
started_known a ready run intake k posts held = record {
  holds = (run_starts a (with_run a run) ready run k.holds k.sound k.staged k.none posts held refl).1;
  none = refl;
  base = λ e. (held.map, held.standing ∙ ap (after_turn ready.map ready.before) posts);
  taken = k.taken;
}

pub has_started : (a : Inside) (d : DriverState) (ready : Ready) (run : AnsweredRun) (intake : TurnIntake) (count : ℕ) → driver_of a ≡ d → Begins a ready intake → run.posts ≡ ready.turn
    → HoldsRun (map_state ready.map ready.before) run → intake.count ≡ Ok count → HasStarted d.told d.machine (machine_of (taken_in (with_run a run) intake)) count
has_started a d ready run intake count view k posts held counted =
    let known = started_known a ready run intake k posts held in
    let went : Went (told_in a.channels.items) (machine_of (with_run a run)) (machine_of (taken_in (with_run a run) intake)) intake.count = (leaves (with_run a run) ready.map (after_edits_of ready) intake known).went in
    let started : HasStarted (told_in a.channels.items) (machine_of a) (machine_of (taken_in (with_run a run) intake)) count = record {
      turn = run.posts;
      staged = ap turn_of k.staged ∙ ap (λ (t : List (List Post)). Some t) (sym posts);
      answers = run.answers.value;
      run = (run_starts a (with_run a run) ready run k.holds k.sound k.staged k.none posts held refl).0;
      next = subst (Went (told_in a.channels.items) (machine_of (with_run a run)) (machine_of (taken_in (with_run a run) intake))) counted went;
    } in
    subst (λ (e : DriverState). HasStarted e.told e.machine (machine_of (taken_in (with_run a run) intake)) count) view started

-- all but the machine is as it was
pub started_rest : (a : Inside) (d : DriverState) (ready : Ready) (run : AnsweredRun) (intake : TurnIntake) → driver_of a ≡ d → Begins a ready intake → run.posts ≡ ready.turn
    → HoldsRun (map_state ready.map ready.before) run → driver_of (taken_in (with_run a run) intake) ≡ with_machine d (machine_of (taken_in (with_run a run) intake))
started_rest a d ready run intake view k posts held =
    same_rest (with_run a run) ready.map (after_edits_of ready) intake (started_known a ready run intake k posts held)
    ∙ ap (λ (e : DriverState). with_machine e (machine_of (taken_in (with_run a run) intake))) view

pub broken_known : (a : Inside) (ready : Ready) (turn : List (List Post)) (intake : TurnIntake) → Begins a ready intake → turn ≡ ready.turn → Known (with_broken a turn) ready.map (after_edits_of ready) intake
broken_known a ready turn intake k posts = record {
  holds = (run_breaks a (with_broken a turn) ready turn k.holds k.sound k.staged k.none posts refl).1.0;
  none = refl;
  base = λ e. absurd (both_ways true e refl);
  taken = k.taken;
}

pub has_broken_off : (a : Inside) (d : DriverState) (ready : Ready) (turn : List (List Post)) (intake : TurnIntake) → driver_of a ≡ d → Begins a ready intake → turn ≡ ready.turn
    → HasBrokenOff d.told d.machine (machine_of (taken_in (with_broken a turn) intake))
has_broken_off a d ready turn intake view k posts =
    let b : Inside = with_broken a turn in
    let breaks = run_breaks a b ready turn k.holds k.sound k.staged k.none posts refl in
    let went : Went (told_in a.channels.items) (machine_of b) (machine_of (taken_in b intake)) intake.count = (leaves b ready.map (after_edits_of ready) intake (broken_known a ready turn intake k posts)).went in
    let started : Went (told_in a.channels.items) (in_run (machine_of a) (begun turn)) (machine_of (taken_in b intake)) intake.count =
    subst (λ (s : State). Went (told_in a.channels.items) s (machine_of (taken_in b intake)) intake.count) breaks.1.1 went in
    let broken : HasBrokenOff (told_in a.channels.items) (machine_of a) (machine_of (taken_in b intake)) = record {
      turn = turn;
      staged = ap turn_of k.staged ∙ ap (λ (t : List (List Post)). Some t) (sym posts);
      start = breaks.0;
      next = went_either (told_in a.channels.items) (in_run (machine_of a) (begun turn)) (machine_of (taken_in b intake)) intake.count started;
    } in
    subst (λ (e : DriverState). HasBrokenOff e.told e.machine (machine_of (taken_in b intake))) view broken

pub broken_rest : (a : Inside) (d : DriverState) (ready : Ready) (turn : List (List Post)) (intake : TurnIntake) → driver_of a ≡ d → Begins a ready intake → turn ≡ ready.turn
    → driver_of (taken_in (with_broken a turn) intake) ≡ record d { machine = machine_of (taken_in (with_broken a turn) intake); failed = true }
broken_rest a d ready turn intake view k posts =
    same_rest (with_broken a turn) ready.map (after_edits_of ready) intake (broken_known a ready turn intake k posts)
    ∙ ap (λ (e : DriverState). record e { machine = machine_of (taken_in (with_broken a turn) intake); failed = true }) view
