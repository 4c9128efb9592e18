-- The chosen walk goes by jump states.
use Rattle.std.proofs.Common.{ℕ, zero, suc, ◌≡◌, ◌+◌, ◌<◌, ◌≤◌, ◌⊎◌, inl, inr, Bool, true, false, List, [], ◌∷◌, Option}
use Rattle.std.proofs.Common.{None, Some, IsTrue, IsFalse, reverse, refl, sym, ap, subst, ◌∙◌, arith}
use Rattle.std.proofs.lemmas.Bool.{false≢true}
use Rattle.std.proofs.lemmas.Option.{same_Some, none-some}
use Rattle.nav_types.specs.declared.cells.Cell.{Cell}
use Rattle.nav_types.specs.declared.directions.Dir.{Dir}
use Rattle.nav_types.specs.Directions.{is_straight, step_cost, Leads}
use Rattle.nav_types.specs.Walks.{Step, IsDistance}
use Rattle.nav_types.proofs.Walking.{leads_from_same, leads_to_same, own_parts, ways_straight, IsDistance-unique}
use Rattle.walks.specs.Chosen.{Enters, IsPicked, IsChosenBack, IsChosen}
use Rattle.walks.proofs.Tracing.{picked_within}
use Rattle.jump_scan.specs.Stops.{IsRun, IsStop, HaltsStraight, HaltsDiagonal, HasStraightStop}
use Rattle.jump_scan.specs.Successors.{IsSuccessor}
use Rattle.jump_scan.specs.Turns.{IsNatural}
use Rattle.jump_scan.proofs.Running.{HasPassed, HasPassed-none, HasPassed-more, IsStop-next, run_more}
use Rattle.jump_search.specs.declared.states.JumpState.{JumpState}
use Rattle.jump_search.specs.JumpStates.{IsStopOf, IsJump, start_state, octile_between, jumps_cost}
use Rattle.jump_search.specs.inner.Following.{Follows}
use Rattle.jump_search.proofs.Exchange.{exchange}
use Rattle.jump_search.proofs.Measuring.{octile_run}
use Rattle.jump_search.proofs.Stable.{same_dir}
use Rattle.jump_search.proofs.RunEnds.{no_way_back, run_less}

-- the last of the steps, which are given backwards
abbrev came_by : List Dir → Option Dir
came_by [] = None
came_by (dir ∷ dirs) = Some dir

-- What lies ahead of a cell to which a walk came by the steps, given backwards: it is hit, or the walk goes on to a
-- successor, and where that step is straight, its run can't lack a stop.
abbrev HasAhead : (Cell → Bool) → (Cell → Bool) → Option Dir → List Dir → Cell → Type 0
HasAhead passes hit None dirs cell = IsTrue (hit cell)
HasAhead passes hit (Some next) dirs cell = IsSuccessor passes cell (came_by dirs) next
    × (IsTrue (is_straight next) → (HasStraightStop passes hit next cell → ⊥) → ⊥)

-- a run in the direction halts at the cell
abbrev HaltsAlong : (Cell → Bool) → (Cell → Bool) → Dir → Cell → Type 0
HaltsAlong passes hit dir cell = (IsTrue (is_straight dir) × HaltsStraight passes hit dir cell)
    ⊎ (IsFalse (is_straight dir) × HaltsDiagonal passes hit dir cell)

hit_halts : (passes hit : Cell → Bool) (dir : Dir) (cell : Cell) (straight : Bool) → is_straight dir ≡ straight
    → IsTrue (hit cell) → HaltsAlong passes hit dir cell
hit_halts passes hit dir cell true is here = inl (is, inl here)
hit_halts passes hit dir cell false is here = inr (is, inl here)

-- the first cell at which a run halts is its stop
stop_along : (passes hit : Cell → Bool) (dir : Dir) (from stop : Cell) (straight : Bool) → is_straight dir ≡ straight
    → IsStop passes (HaltsAlong passes hit dir) dir from stop → IsStopOf passes hit dir from stop
stop_along passes hit dir from stop true is at = inl (
  is,
  record {
    count = at.count;
    some = at.some;
    run = at.run;
    halts = elim at.halts [ inl here ↦ here.1 | inr other ↦ absurd (false≢true (sym other.0 ∙ is)) ];
    first = λ fewer cell some less run halts. at.first fewer cell some less run (inl (is, halts));
  },
)
stop_along passes hit dir from stop false is at = inr (
  is,
  record {
    count = at.count;
    some = at.some;
    run = at.run;
    halts = elim at.halts [ inl other ↦ absurd (false≢true (sym is ∙ other.0)) | inr here ↦ here.1 ];
    first = λ fewer cell some less run halts. at.first fewer cell some less run (inr (is, halts));
  },
)

not_before : (passes : Cell → Bool) (Halts : Cell → Type 0) (dir : Dir) (from next stop : Cell)
    → Step passes dir from next → (Halts next → ⊥) → (at : IsStop passes Halts dir next stop)
    → (fewer : ℕ) (cell : Cell) → 0 < fewer → fewer < suc at.count
    → IsRun passes dir fewer from cell → Halts cell → ⊥
not_before passes Halts dir from next stop step never at zero cell some less run halts = omega (arith, some)
not_before passes Halts dir from next stop step never at (suc zero) cell some less run halts =
    let leads = subst (λ (c : Cell). Leads dir from c) run.1.1 run.1.0.leads in
    never (subst Halts (sym (leads_to_same dir from next cell step.leads leads)) halts)
not_before passes Halts dir from next stop step never at (suc (suc fewer)) cell some less run halts =
    let same = leads_to_same dir from run.0 next run.1.0.leads step.leads in
    let rest = subst (λ (c : Cell). IsRun passes dir (suc fewer) c cell) same run.1.1 in
    at.first (suc fewer) cell (omega arith) (omega (arith, less)) rest halts

-- a stop from the next cell is one from the cell, where the run does not halt at the next
stop_back : (passes : Cell → Bool) (Halts : Cell → Type 0) (dir : Dir) (from next stop : Cell)
    → Step passes dir from next → (Halts next → ⊥) → IsStop passes Halts dir next stop
    → IsStop passes Halts dir from stop
stop_back passes Halts dir from next stop step never at = record {
  count = suc at.count;
  some = omega arith;
  run = (next, (step, at.run));
  halts = at.halts;
  first = not_before passes Halts dir from next stop step never at;
}

-- a natural direction of a straight one is that itself
natural_straight : (dir next : Dir) → is_straight dir ≡ true → IsNatural dir next → next ≡ dir
natural_straight dir next straight natural =
    let own = own_parts dir straight in
    elim natural [ inl same ↦ same | inr part ↦ elim part [ inl row ↦ row ∙ own.0 | inr column ↦ column ∙ own.1 ] ]

-- after a straight step the run halts where the walk turns
turn_halts : (passes hit : Cell → Bool) (dir next : Dir) (cell : Cell) → is_straight dir ≡ true → (next ≡ dir → ⊥)
    → IsSuccessor passes cell (Some dir) next → HaltsStraight passes hit dir cell
turn_halts passes hit dir next cell straight other successor = elim successor.1 [
  | inl natural ↦ absurd (other (natural_straight dir next straight natural))
  | inr forced ↦ inr (next, (successor.0, forced))
]

-- a straight step that the walk takes has a stop ahead
stop_ahead : (passes hit : Cell → Bool) (dir : Dir) (from cell : Cell) (next : Option Dir) (dirs : List Dir)
    → is_straight dir ≡ true → Step passes dir from cell → HasAhead passes hit next (dir ∷ dirs) cell
    → (HasStraightStop passes hit dir from → ⊥) → ⊥
stop_ahead passes hit dir from cell None dirs straight step ahead none =
    let Halts = HaltsStraight passes hit dir in
    none (cell, IsStop-next passes Halts dir from from cell (HasPassed-none passes Halts dir from) step (inl ahead))
stop_ahead passes hit dir from cell (Some next) dirs straight step ahead none =
    let Halts = HaltsStraight passes hit dir in
    let never : Halts cell → ⊥ =
    λ halts.
    none (cell, IsStop-next passes Halts dir from from cell (HasPassed-none passes Halts dir from) step halts) in
    elim (same_dir next dir) [
      | inl same ↦
          let S = λ (way : Dir). IsTrue (is_straight way) → (HasStraightStop passes hit way cell → ⊥) → ⊥ in
          subst S same ahead.1 straight
          (λ found. none (found.0, stop_back passes Halts dir from cell found.0 step never found.1))
      | inr other ↦ never (turn_halts passes hit dir next cell straight other ahead.0)
    ]

-- what lies ahead of the cell before a step that the walk takes
ahead_before : (passes hit : Cell → Bool) (start before cell : Cell) (next : Option Dir) (dir : Dir) (dirs : List Dir)
    → IsChosenBack passes start next (dir ∷ dirs) cell → Step passes dir before cell
    → HasAhead passes hit next (dir ∷ dirs) cell → HasAhead passes hit (Some dir) dirs before
ahead_before passes hit start before cell next dir [] chosen step ahead = (
  (cell, step),
  λ straight. stop_ahead passes hit dir before cell next [] straight step ahead,
)
ahead_before passes hit start before cell next dir (first ∷ dirs) chosen step ahead = (
  exchange passes start cell before next first dir dirs chosen step.leads,
  λ straight. stop_ahead passes hit dir before cell next (first ∷ dirs) straight step ahead,
)

-- The chosen walk comes to the cell from a jump state by steps in one direction, after which its next step is the same.
-- The run has halted nowhere. `least` is 1 where the direction into the cell itself is left out, else 0.
record IsUnderway (passes hit : Cell → Bool) (start : Cell) (dir : Dir) (least : ℕ) (cell : Cell) : Type 0 where
  rest : List JumpState
  before : JumpState
  follows : Follows passes hit start (Some dir) rest before
  successor : IsSuccessor passes before.cell before.arrived dir
  passed : HasPassed passes (HaltsAlong passes hit dir) dir before.cell cell
  cost : IsDistance passes start cell (jumps_cost rest before + octile_between before.cell cell)
  inside : (some more : ℕ) (on : Cell) → 0 < some → least ≤ more → IsRun passes dir some before.cell on
      → IsRun passes dir more on cell → IsPicked (Enters passes start on) (Some dir) dir

-- the chosen walk into the cell, after which it takes the step `next`, ends at a jump state or on a run
abbrev IsAt : (Cell → Bool) → (Cell → Bool) → Cell → Option Dir → Option Dir → Cell → Type 0
IsAt passes hit start next arrived cell =
    ((states : List JumpState) × Follows passes hit start next states (record { cell = cell; arrived = arrived }))
    ⊎ ((dir : Dir) × ((arrived ≡ Some dir) × ((on : IsUnderway passes hit start dir 1 cell) × (0 < on.passed.count))))

-- the octile distance of a run grows by the cost of a step
cost_more : (passes : Cell → Bool) (dir : Dir) (count : ℕ) (from cell next : Cell) → IsRun passes dir count from cell
    → Step passes dir cell next → octile_between from next ≡ octile_between from cell + step_cost dir
cost_more passes dir count from cell next run step =
    let less = octile_run passes dir count from cell run in
    let more = octile_run passes dir (suc count) from next (run_more passes dir count from cell next run step) in
    omega (arith, less, more)

-- a run that has come one step on has some steps
some_steps : (passes : Cell → Bool) (dir : Dir) (count longer : ℕ) (from to : Cell) → IsRun passes dir count from to
    → IsRun passes dir (suc longer) from to → 0 < count
some_steps passes dir zero longer from to run longer_run =
    absurd (no_way_back passes dir (suc longer) zero from to longer_run (sym run) (omega arith))
some_steps passes dir (suc count) longer from to run longer_run = omega arith

-- a walk under way whose next step comes to the cell in the same direction
record IsStepping (passes hit : Cell → Bool) (start before cell : Cell) (dir : Dir) (next : Option Dir) : Type 0 where
  on : IsUnderway passes hit start dir 0 before
  step : Step passes dir before cell
  picked : IsPicked (Enters passes start cell) next dir

-- the direction is the walk's own into each cell on the way
inside_more : (passes hit : Cell → Bool) (start before cell : Cell) (dir : Dir) (next : Option Dir)
    → (by : IsStepping passes hit start before cell dir next) → (some more : ℕ) (at : Cell) → 0 < some → 1 ≤ more
    → IsRun passes dir some by.on.before.cell at → IsRun passes dir more at cell
    → IsPicked (Enters passes start at) (Some dir) dir
inside_more passes hit start before cell dir next by some zero at few least one two = absurd (omega (arith, least))
inside_more passes hit start before cell dir next by some (suc more) at few least one two =
    by.on.inside some more at few (omega arith) one (run_less passes dir more at before cell two by.step.leads)

-- the distance of the next cell
distance_more : (passes hit : Cell → Bool) (start before cell : Cell) (dir : Dir) (next : Option Dir)
    → (by : IsStepping passes hit start before cell dir next)
    → IsDistance passes start cell (jumps_cost by.on.rest by.on.before + octile_between by.on.before.cell cell)
distance_more passes hit start before cell dir next by =
    let on = by.on in
    let from = on.before.cell in
    let so_far = jumps_cost on.rest on.before in
    let enters = picked_within (Enters passes start cell) next dir by.picked in
    let same = leads_from_same dir enters.before before cell enters.step.leads by.step.leads in
    let here = subst (λ (c : Cell). IsDistance passes start c enters.cost) same enters.near in
    let near = IsDistance-unique passes start before enters.cost (so_far + octile_between from before) here on.cost in
    let more = cost_more passes dir on.passed.count from before cell on.passed.run by.step in
    let total : enters.cost + step_cost dir ≡ so_far + octile_between from cell = omega (arith, near, more) in
    subst (λ (c : ℕ). IsDistance passes start cell c) total enters.far

-- where the run halts at the next cell, the walk comes to a jump state
comes_to_stop : (passes hit : Cell → Bool) (start before cell : Cell) (dir : Dir) (next : Option Dir)
    → (by : IsStepping passes hit start before cell dir next) → HaltsAlong passes hit dir cell
    → Follows passes hit start next (by.on.before ∷ by.on.rest) (record { cell = cell; arrived = Some dir })
comes_to_stop passes hit start before cell dir next by halts =
    let on = by.on in
    let Halts = HaltsAlong passes hit dir in
    let at = IsStop-next passes Halts dir on.before.cell before cell on.passed by.step halts in
    let stop = stop_along passes hit dir on.before.cell cell (is_straight dir) refl at in
    let jump : IsJump passes hit on.before (record { cell = cell; arrived = Some dir }) = record {
      dir = dir;
      arrived = refl;
      successor = on.successor;
      stop = stop;
    } in
    let inside = inside_more passes hit start before cell dir next by in (
      distance_more passes hit start before cell dir next by,
      (record { jump = jump; dir = dir; arrived = refl; picked = by.picked; inside = inside }, on.follows),
    )

-- by one step more of the run the walk comes to a jump state or stays on the run
one_more : (passes hit : Cell → Bool) (start before cell : Cell) (dir : Dir) (next : Option Dir)
    → IsStepping passes hit start before cell dir next → (IsAt passes hit start next (Some dir) cell → ⊥) → ⊥
one_more passes hit start before cell dir next by none =
    let on = by.on in
    let from = on.before.cell in
    let Halts = HaltsAlong passes hit dir in
    let never : Halts cell → ⊥ =
    λ halts. none (inl (on.before ∷ on.rest, comes_to_stop passes hit start before cell dir next by halts)) in
    let longer = run_more passes dir on.passed.count from before cell on.passed.run by.step in
    let passed = HasPassed-more passes Halts dir from before cell on.passed by.step never in
    let still : IsUnderway passes hit start dir 1 cell = record {
      rest = on.rest;
      before = on.before;
      follows = on.follows;
      successor = on.successor;
      passed = passed;
      cost = distance_more passes hit start before cell dir next by;
      inside = inside_more passes hit start before cell dir next by;
    } in
    none (inr (dir, (refl, (still, some_steps passes dir passed.count on.passed.count from cell passed.run longer))))

-- the distance of the state's cell is what the jumps cost
follows_distance : (passes hit : Cell → Bool) (start : Cell) (next : Option Dir) (states : List JumpState)
    → (state : JumpState) → Follows passes hit start next states state
    → IsDistance passes start state.cell (jumps_cost states state)
follows_distance passes hit start next [] state follows = record {
  walk = ([], (sym (ap (λ (at : JumpState). at.cell) follows), refl));
  least = λ others walk. omega arith;
}
follows_distance passes hit start next (before ∷ rest) state follows = follows.0

-- a walk that leaves a jump state is under way
leaves : (passes hit : Cell → Bool) (start cell : Cell) (arrived : Option Dir) (dir : Dir) (states : List JumpState)
    → Follows passes hit start (Some dir) states (record { cell = cell; arrived = arrived })
    → IsSuccessor passes cell arrived dir → IsUnderway passes hit start dir 0 cell
leaves passes hit start cell arrived dir states follows successor =
    let state : JumpState = record { cell = cell; arrived = arrived } in
    let same = octile_run passes dir 0 cell cell refl in
    let total : jumps_cost states state ≡ jumps_cost states state + octile_between cell cell = omega (arith, same) in
    let distance = follows_distance passes hit start (Some dir) states state follows in
    record {
      rest = states;
      before = state;
      follows = follows;
      successor = successor;
      passed = HasPassed-none passes (HaltsAlong passes hit dir) dir cell;
      cost = subst (λ (c : ℕ). IsDistance passes start cell c) total distance;
      inside = λ some more at few least one two. absurd (no_way_back passes dir some more cell at one two few);
    }

-- the direction is the walk's own into each cell on the way and into the last one
inside_last : (passes hit : Cell → Bool) (start cell : Cell) (dir : Dir) (on : IsUnderway passes hit start dir 1 cell)
    → IsPicked (Enters passes start cell) (Some dir) dir → (some more : ℕ) (at : Cell) → 0 < some
    → IsRun passes dir some on.before.cell at → IsRun passes dir more at cell
    → IsPicked (Enters passes start at) (Some dir) dir
inside_last passes hit start cell dir on picked some zero at few one two =
    subst (λ (c : Cell). IsPicked (Enters passes start c) (Some dir) dir) (sym two) picked
inside_last passes hit start cell dir on picked some (suc more) at few one two =
    on.inside some (suc more) at few (omega arith) one two

-- a walk that goes on in the direction stays under way
goes_on : (passes hit : Cell → Bool) (start cell : Cell) (dir : Dir) → IsUnderway passes hit start dir 1 cell
    → IsPicked (Enters passes start cell) (Some dir) dir → IsUnderway passes hit start dir 0 cell
goes_on passes hit start cell dir on picked = record {
  rest = on.rest;
  before = on.before;
  follows = on.follows;
  successor = on.successor;
  passed = on.passed;
  cost = on.cost;
  inside = λ some more at few least one two. inside_last passes hit start cell dir on picked some more at few one two;
}

-- a run that has not halted is not left by the chosen walk
no_turn : (passes hit : Cell → Bool) (dir next : Dir) (cell : Cell) (straight : Bool) → is_straight dir ≡ straight
    → (HaltsAlong passes hit dir cell → ⊥) → IsSuccessor passes cell (Some dir) next
    → (IsTrue (is_straight next) → (HasStraightStop passes hit next cell → ⊥) → ⊥) → (next ≡ dir → ⊥) → ⊥
no_turn passes hit dir next cell true is never successor stops other =
    never (inl (is, turn_halts passes hit dir next cell is other successor))
no_turn passes hit dir next cell false is never successor stops other =
    let S = λ (way : Dir). IsTrue (is_straight way) → (HasStraightStop passes hit way cell → ⊥) → ⊥ in
    let parts = ways_straight dir in
    elim successor.1 [
      | inl natural ↦ elim natural [
        | inl same ↦ other same
        | inr part ↦ elim part [
          | inl row ↦ subst S row stops parts.0 (λ stop. never (inr (is, inr (inl stop))))
          | inr column ↦ subst S column stops parts.1 (λ stop. never (inr (is, inr (inr stop))))
        ]
      ]
      | inr forced ↦ false≢true (sym is ∙ forced.1.0.0)
    ]

-- by one step more after a run the chosen walk comes to a jump state or stays on the run
after_run : (passes hit : Cell → Bool) (start before cell : Cell) (next : Option Dir) (way dir : Dir)
    → (on : IsUnderway passes hit start way 1 before) → 0 < on.passed.count
    → IsPicked (Enters passes start before) (Some dir) way → Step passes dir before cell
    → IsPicked (Enters passes start cell) next dir → IsSuccessor passes before (Some way) dir
    → (IsTrue (is_straight dir) → (HasStraightStop passes hit dir before → ⊥) → ⊥)
    → (IsAt passes hit start next (Some dir) cell → ⊥) → ⊥
after_run passes hit start before cell next way dir on some came step picked successor stops = elim (same_dir dir way) [
  | inl same ↦
      let P = λ (d : Dir). IsPicked (Enters passes start before) (Some d) way in
      let U = λ (d : Dir). IsUnderway passes hit start d 0 before in
      let still = subst U (sym same) (goes_on passes hit start before way on (subst P same came)) in
      one_more passes hit start before cell dir next (record { on = still; step = step; picked = picked })
  | inr other ↦ λ none.
      let run = on.passed.run in
      let never = on.passed.none on.passed.count before some (omega arith) run in
      no_turn passes hit way dir before (is_straight way) refl never successor stops other
]

-- by one step more the chosen walk comes to a jump state or is on a run
one_step : (passes hit : Cell → Bool) (start before cell : Cell) (next : Option Dir) (dir : Dir) (dirs : List Dir)
    → IsChosenBack passes start (Some dir) dirs before → Step passes dir before cell
    → IsPicked (Enters passes start cell) next dir → HasAhead passes hit (Some dir) dirs before
    → IsAt passes hit start (Some dir) (came_by dirs) before
    → (IsAt passes hit start next (Some dir) cell → ⊥) → ⊥
one_step passes hit start before cell next dir dirs chosen step picked ahead (inl state) =
    let left = leaves passes hit start before (came_by dirs) dir state.0 state.1 ahead.0 in
    one_more passes hit start before cell dir next (record { on = left; step = step; picked = picked })
one_step passes hit start before cell next dir [] chosen step picked ahead (inr on) = absurd (none-some on.0 on.1.0)
one_step passes hit start before cell next dir (last ∷ dirs) chosen step picked ahead (inr on) =
    let same = same_Some last on.0 on.1.0 in
    let P = λ (way : Dir). IsPicked (Enters passes start before) (Some dir) way in
    let S = λ (way : Dir). IsSuccessor passes before (Some way) dir in
    after_run passes hit start before cell next on.0 dir on.1.1.0 on.1.1.1 (subst P same chosen.1.0) step picked
    (subst S same ahead.0) ahead.1

-- the chosen walk into a cell ends at a jump state or on a run
comes : (passes hit : Cell → Bool) (start : Cell) (dirs : List Dir) (next : Option Dir) (cell : Cell)
    → IsChosenBack passes start next dirs cell → HasAhead passes hit next dirs cell
    → (IsAt passes hit start next (came_by dirs) cell → ⊥) → ⊥
comes passes hit start [] next cell chosen ahead none =
    none (inl ([], ap (λ (c : Cell). start_state c) (sym chosen)))
comes passes hit start (dir ∷ dirs) next cell chosen ahead none =
    let before = chosen.1.1.0 in
    let rest = chosen.1.1.1.1 in
    let enters = picked_within (Enters passes start cell) next dir chosen.1.0 in
    let same = leads_from_same dir enters.before before cell enters.step.leads chosen.1.1.1.0 in
    let step = subst (λ (c : Cell). Step passes dir c cell) same enters.step in
    let ahead_of = ahead_before passes hit start before cell next dir dirs chosen step ahead in
    comes passes hit start dirs (Some dir) before rest ahead_of
    (λ at. one_step passes hit start before cell next dir dirs rest step chosen.1.0 ahead_of at none)

-- The chosen walk to a cell that is hit goes by jump states.
pub stops : (passes hit : Cell → Bool) (start end : Cell) (dirs : List Dir)
    → IsTrue (passes start) → IsTrue (hit end) → IsChosen passes start dirs end
    → ((states : List JumpState) (state : JumpState) → state.cell ≡ end
    → Follows passes hit start None states state → ⊥) → ⊥
stops passes hit start end dirs passing here chosen none =
    comes passes hit start (reverse dirs) None end chosen here (λ at. elim at [
      | inl found ↦ none found.0 (record { cell = end; arrived = came_by (reverse dirs) }) refl found.1
      | inr on ↦
          let run = on.1.1.0.passed.run in
          on.1.1.0.passed.none on.1.1.0.passed.count end on.1.1.1 (omega arith) run
          (hit_halts passes hit on.0 end (is_straight on.0) refl here)
    ])
