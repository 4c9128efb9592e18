-- The last run to a cell: where it lies on a walk of least cost, and that the one that is kept is the one that is
-- followed.
use Rattle.std.proofs.Common.{ℕ, zero, suc, ◌≡◌, ◌+◌, ◌-◌, ◌*◌, ◌<◌, ◌⊎◌, Bool, true, false, List}
use Rattle.std.proofs.Common.{[], ◌∷◌, ◌++◌, Option, Some, None, inl, inr, refl, sym, subst, ap, ◌∙◌, arith, replicate}
use Rattle.std.proofs.lemmas.Bool.{cases_lt, false≢true, cases_Bool}
use Rattle.std.proofs.lemmas.List.Sums.{sum_by-append}
use Rattle.std.proofs.lemmas.Option.{same_Some}
use Rattle.nav_types.specs.declared.cells.Cell.{Cell}
use Rattle.nav_types.specs.declared.directions.Dir.{Dir}
use Rattle.nav_types.specs.declared.directions.Dir.TheVariants.{N, E, S, W, NE, SE, SW, NW}
use Rattle.nav_types.specs.Directions.{is_straight, step_cost}
use Rattle.nav_types.specs.Walks.{Step, IsDistance}
use Rattle.nav_types.proofs.CellOrder.{same_cell}
use Rattle.nav_types.proofs.Walking.{IsWalk-append, IsDistance-unique, ways_straight, step_cost_some}
use Rattle.walks.specs.Chosen.{Enters, preference, IsFirstIn, CanGoStraight, IsPicked, IsChosenBack}
use Rattle.walks.proofs.Tracing.{first_within, picked_within}
use Rattle.jump_scan.specs.Stops.{IsRun, IsStraightStop, IsDiagonalStop}
use Rattle.jump_scan.specs.Successors.{IsSuccessor}
use Rattle.jump_search.specs.declared.states.JumpState.{JumpState}
use Rattle.jump_search.specs.JumpStates.{IsStopOf, IsJump}
use Rattle.jump_search.specs.inner.Following.{Follows}
use Rattle.jump_search.specs.inner.Searched.{IsKeptRun}
use Rattle.jump_search.specs.inner.Traced.{Moves}
use Rattle.jump_search.proofs.Measuring.{run_moves, octile_run, run_cost, Walked, walked_run}

-- steps of a run

pub same_count : (dir : Dir) (m n : ℕ) → m * step_cost dir ≡ n * step_cost dir → m ≡ n
same_count N m n same = omega arith
same_count E m n same = omega arith
same_count S m n same = omega arith
same_count W m n same = omega arith
same_count NE m n same = omega arith
same_count SE m n same = omega arith
same_count SW m n same = omega arith
same_count NW m n same = omega arith

-- runs of one direction between two cells have as many steps
pub one_count : (passes : Cell → Bool) (dir : Dir) (m n : ℕ) (from to : Cell) → IsRun passes dir m from to
    → IsRun passes dir n from to → m ≡ n
one_count passes dir m n from to one two =
    same_count dir m n (sym (octile_run passes dir m from to one) ∙ octile_run passes dir n from to two)

-- so many steps come from one cell
pub moves_from_same : (dir : Dir) (count : ℕ) (a b to : Cell) → Moves dir count a to → Moves dir count b to → a ≡ b
moves_from_same dir count a b to one two =
    let oc = one.columns in let or = one.rows in let tc = two.columns in let tr = two.rows in
    same_cell a b (omega arith) (omega arith)

pub run_from_same : (passes : Cell → Bool) (dir : Dir) (count : ℕ) (a b to : Cell) → IsRun passes dir count a to
    → IsRun passes dir count b to → a ≡ b
run_from_same passes dir count a b to one two =
    moves_from_same dir count a b to (run_moves passes dir count a to one) (run_moves passes dir count b to two)

-- a run by its last step
pub run_last : (passes : Cell → Bool) (dir : Dir) (count : ℕ) (from to : Cell) → IsRun passes dir (suc count) from to
    → (before : Cell) × (IsRun passes dir count from before × Step passes dir before to)
run_last passes dir zero from to run = (from, (refl, subst (λ (c : Cell). Step passes dir from c) run.1.1 run.1.0))
run_last passes dir (suc count) from to run =
    let rest = run_last passes dir count run.0 to run.1.1 in
    (rest.0, ((run.0, (run.1.0, rest.1.0)), rest.1.1))

-- a run by two runs
pub run_parted : (passes : Cell → Bool) (dir : Dir) (some more count : ℕ) (from to : Cell) → count ≡ some + more
    → IsRun passes dir count from to
    → (middle : Cell) × (IsRun passes dir some from middle × IsRun passes dir more middle to)
run_parted passes dir zero more count from to sums run =
    let all : count ≡ more = omega (arith, sums) in
    (from, (refl, subst (λ (n : ℕ). IsRun passes dir n from to) all run))
run_parted passes dir (suc some) more zero from to sums run = absurd (omega (arith, sums))
run_parted passes dir (suc some) more (suc count) from to sums run =
    let rest = run_parted passes dir some more count run.0 to (omega (arith, sums)) run.1.1 in
    (rest.0, ((run.0, (run.1.0, rest.1.0)), rest.1.1))

-- a cell before the last cell of a run, by the run from there
run_through : (passes : Cell → Bool) (dir : Dir) (more count : ℕ) (from middle to : Cell) → more < count
    → IsRun passes dir count from to
    → IsRun passes dir more middle to → IsRun passes dir (count - more) from middle
run_through passes dir more count from middle to less run rest =
    let parts = run_parted passes dir (count - more) more count from to (omega (arith, less)) run in
    subst (λ (c : Cell). IsRun passes dir (count - more) from c)
    (run_from_same passes dir more parts.0 middle to parts.1.1 rest) parts.1.0

-- distances along a run of least cost

pub run_distance : (passes : Cell → Bool) (start from cell to : Cell) (cost : ℕ) (dir : Dir) (some more : ℕ)
    → Walked passes start from cost
    → IsRun passes dir some from cell → IsRun passes dir more cell to
    → IsDistance passes start to (cost + (some * step_cost dir + more * step_cost dir))
    → IsDistance passes start cell (cost + some * step_cost dir)
run_distance passes start from cell to cost dir some more walked run rest distance =
    let here = walked_run passes start from cell cost dir some walked run in
    record {
      walk = (here.dirs, (here.walk, here.costs));
      least = λ others walk.
          (let longer = distance.least (others ++ replicate more dir)
          (IsWalk-append passes start cell to others (replicate more dir) walk rest) in
          omega (arith, longer, sum_by-append step_cost others (replicate more dir), run_cost dir more));
    }

-- the cell where the last run begins is at its distance
pub begin_distance : (passes : Cell → Bool) (start from to : Cell) (cost : ℕ) (dir : Dir) (count : ℕ)
    → Walked passes start from cost
    → IsRun passes dir count from to → IsDistance passes start to (cost + count * step_cost dir)
    → IsDistance passes start from cost
begin_distance passes start from to cost dir count walked run distance = record {
  walk = (walked.dirs, (walked.walk, walked.costs));
  least = λ others walk.
      (let longer = distance.least (others ++ replicate count dir)
      (IsWalk-append passes start from to others (replicate count dir) walk run) in
      omega (arith, longer, sum_by-append step_cost others (replicate count dir), run_cost dir count));
}

-- a run of least cost enters its last cell
pub run_enters : (passes : Cell → Bool) (start from to : Cell) (cost : ℕ) (dir : Dir) (count : ℕ) → 0 < count
    → IsDistance passes start from cost
    → IsRun passes dir count from to → IsDistance passes start to (cost + count * step_cost dir)
    → Enters passes start to dir
run_enters passes start from to cost dir zero some near run far = absurd (omega (arith, some))
run_enters passes start from to cost dir (suc count) some near run far =
    let last = run_last passes dir count from to run in
    let walked : Walked passes start from cost =
    record { dirs = near.walk.0; walk = near.walk.1.0; costs = near.walk.1.1 } in
    let one : IsRun passes dir 1 last.0 to = (to, (last.1.1, refl)) in
    let sums : cost + suc count * step_cost dir ≡ cost + (count * step_cost dir + 1 * step_cost dir) = omega arith in
    let step : cost + suc count * step_cost dir ≡ cost + count * step_cost dir + step_cost dir = omega arith in
    record {
      before = last.0;
      step = last.1.1;
      cost = cost + count * step_cost dir;
      near = run_distance passes start from last.0 to cost dir count 1 walked last.1.0 one
          (subst (λ (n : ℕ). IsDistance passes start to n) sums far);
      far = subst (λ (n : ℕ). IsDistance passes start to n) step far;
    }

-- the start is entered by no step
pub entered_away : (passes : Cell → Bool) (start cell : Cell) (dir : Dir) → Enters passes start cell dir → start ≡ cell
    → ⊥
entered_away passes start cell dir enters same =
    let far = enters.far in
    let none = far.least [] same in
    omega (arith, none, step_cost_some dir)

-- picked directions

one_first : (Exact Within : Dir → Type 0) (dirs : List Dir) (picked dir : Dir)
    → ((other : Dir) → Exact other → Within other) → Exact dir
    → IsFirstIn Exact dirs picked → IsFirstIn Within dirs dir → picked ≡ dir
one_first Exact Within [] picked dir inside exact one two = absurd one
one_first Exact Within (first ∷ rest) picked dir inside exact (inl p) (inl q) = p.1 ∙ sym q.1
one_first Exact Within (first ∷ rest) picked dir inside exact (inl p) (inr q) = absurd (q.0 (inside first p.0))
one_first Exact Within (first ∷ rest) picked dir inside exact (inr p) (inl q) = absurd (p.0 (subst Exact q.1 exact))
one_first Exact Within (first ∷ rest) picked dir inside exact (inr p) (inr q) =
    one_first Exact Within rest picked dir inside exact p.1 q.1

can_narrow : (Exact Within : Dir → Type 0) (next : Option Dir) → ((other : Dir) → Exact other → Within other)
    → CanGoStraight Exact next → CanGoStraight Within next
can_narrow Exact Within None inside can = can
can_narrow Exact Within (Some ahead) inside can = (can.0, inside ahead can.1)

can_widen : (Exact Within : Dir → Type 0) (next : Option Dir) (dir : Dir) → Exact dir → next ≡ Some dir
    → CanGoStraight Within next → CanGoStraight Exact next
can_widen Exact Within None dir exact same can = can
can_widen Exact Within (Some ahead) dir exact same can = let e : dir ≡ ahead = cc in (can.0, subst Exact e exact)

-- within fewer directions the same one is picked, where it is among them
pub one_pick : (Exact Within : Dir → Type 0) (next : Option Dir) (picked dir : Dir)
    → ((other : Dir) → Exact other → Within other) → Exact dir
    → IsPicked Exact next picked → IsPicked Within next dir → picked ≡ dir
one_pick Exact Within next picked dir inside exact (inl p) (inl q) = same_Some picked dir (sym p.1 ∙ q.1)
one_pick Exact Within next picked dir inside exact (inl p) (inr q) =
    absurd (q.0 (can_narrow Exact Within next inside p.0))
one_pick Exact Within next picked dir inside exact (inr p) (inl q) =
    absurd (p.0 (can_widen Exact Within next dir exact q.1 q.0))
one_pick Exact Within next picked dir inside exact (inr p) (inr q) =
    one_first Exact Within preference picked dir inside exact p.1 q.1

-- the first by preference is straight where a straight one is among them

is_one_of : (Within : Dir → Type 0) (dir : Dir) → is_straight dir ≡ true → Within dir → (Within N → ⊥) → (Within E → ⊥)
    → (Within S → ⊥) → (Within W → ⊥) → ⊥
is_one_of Within N straight is n e s w = n is
is_one_of Within E straight is n e s w = e is
is_one_of Within S straight is n e s w = s is
is_one_of Within W straight is n e s w = w is
is_one_of Within NE straight is n e s w = false≢true straight
is_one_of Within SE straight is n e s w = false≢true straight
is_one_of Within SW straight is n e s w = false≢true straight
is_one_of Within NW straight is n e s w = false≢true straight

straight_first : (Within : Dir → Type 0) (dir other : Dir) → is_straight other ≡ true → Within other
    → IsFirstIn Within preference dir → is_straight dir ≡ true
straight_first Within dir other straight is (inl n) = ap is_straight n.1
straight_first Within dir other straight is (inr (n, inl e)) = ap is_straight e.1
straight_first Within dir other straight is (inr (n, inr (e, inl s))) = ap is_straight s.1
straight_first Within dir other straight is (inr (n, inr (e, inr (s, inl w)))) = ap is_straight w.1
straight_first Within dir other straight is (inr (n, inr (e, inr (s, inr (w, rest))))) =
    absurd (is_one_of Within other straight is n e s w)

-- stops of jumps

pub straight_stop : (passes hit : Cell → Bool) (from to : JumpState) (dir : Dir) → IsJump passes hit from to
    → to.arrived ≡ Some dir
    → is_straight dir ≡ true → IsStraightStop passes hit dir from.cell to.cell
straight_stop passes hit from to dir jump arrived straight =
    let same : jump.dir ≡ dir = same_Some jump.dir dir (sym jump.arrived ∙ arrived) in
    elim (subst (λ (d : Dir). IsStopOf passes hit d from.cell to.cell) same jump.stop) [
      | inl is ↦ is.1
      | inr other ↦ absurd (false≢true (sym other.0 ∙ straight))
    ]

pub diagonal_stop : (passes hit : Cell → Bool) (from to : JumpState) (dir : Dir) → IsJump passes hit from to
    → to.arrived ≡ Some dir
    → is_straight dir ≡ false → IsDiagonalStop passes hit dir from.cell to.cell
diagonal_stop passes hit from to dir jump arrived diagonal =
    let same : jump.dir ≡ dir = same_Some jump.dir dir (sym jump.arrived ∙ arrived) in
    elim (subst (λ (d : Dir). IsStopOf passes hit d from.cell to.cell) same jump.stop) [
      | inl other ↦ absurd (false≢true (sym diagonal ∙ other.0))
      | inr is ↦ is.1
    ]

-- where the chosen walk comes to a state and can go straight on, it comes straight
came_straight : (passes hit : Cell → Bool) (start : Cell) (dir : Dir) (states : List JumpState) (state : JumpState)
    → Follows passes hit start (Some dir) states state → is_straight dir ≡ true → Enters passes start state.cell dir
    → (before : JumpState) × (IsJump passes hit before state × (state.arrived ≡ Some dir))
came_straight passes hit start dir [] state follows straight enters =
    absurd (entered_away passes start state.cell dir enters (sym (ap (λ (s : JumpState). s.cell) follows)))
came_straight passes hit start dir (before ∷ rest) state follows straight enters =
    let followed = follows.1.0 in
    elim followed.picked [
      | inl on ↦ (before, (followed.jump, followed.arrived ∙ sym on.1))
      | inr turn ↦ absurd (turn.0 (straight, enters))
    ]

-- a diagonal jump after a diagonal one goes the same way
came_diagonal : (passes : Cell → Bool) (cell : Cell) (arrived dir : Dir) → is_straight arrived ≡ false
    → is_straight dir ≡ false
    → IsSuccessor passes cell (Some arrived) dir → arrived ≡ dir
came_diagonal passes cell arrived dir one two successor = elim successor.1 [
  | inl natural ↦ elim natural [
    | inl same ↦ sym same
    | inr part ↦ elim part [
      | inl row ↦ absurd (false≢true (sym two ∙ (ap is_straight row ∙ (ways_straight arrived).0)))
      | inr column ↦ absurd (false≢true (sym two ∙ (ap is_straight column ∙ (ways_straight arrived).1)))
    ]
  ]
  | inr forced ↦ absurd (false≢true (sym one ∙ forced.1.0.0))
]

-- The last run to a cell.
pub record HasLastRun (passes hit : Cell → Bool) (start : Cell) (dir : Dir) (to : JumpState) (before : JumpState)
    (cost run : ℕ) : Type 0 where
  pub jump : IsJump passes hit before to
  pub arrived : to.arrived ≡ Some dir
  pub some : 0 < run
  pub steps : IsRun passes dir run before.cell to.cell
  pub near : IsDistance passes start before.cell cost
  pub far : IsDistance passes start to.cell (cost + run * step_cost dir)

-- a straight run that is longer than the followed one would have halted where that one begins
no_longer_straight : (passes hit : Cell → Bool) (start : Cell) (dir : Dir) (to kept before : JumpState)
    (states : List JumpState) (cost run least count : ℕ)
    → HasLastRun passes hit start dir to kept cost run → HasLastRun passes hit start dir to before least count
    → Follows passes hit start (Some dir) states before → is_straight dir ≡ true → count < run → ⊥
no_longer_straight passes hit start dir to kept before states cost run least count longer shorter follows straight less
    =
    let through = run_through passes dir count run kept.cell before.cell to.cell less longer.steps shorter.steps in
    let distance : cost + run * step_cost dir ≡ least + count * step_cost dir =
    IsDistance-unique passes start to.cell _ _ longer.far shorter.far in
    let parts : run ≡ (run - count) + count = omega (arith, less) in
    let times : run * step_cost dir ≡ (run - count) * step_cost dir + count * step_cost dir =
    ap (λ (n : ℕ). n * step_cost dir) parts ∙ omega arith in
    let same : least ≡ cost + (run - count) * step_cost dir = omega (arith, distance, times) in
    let enters = run_enters passes start kept.cell before.cell cost dir (run - count) (omega (arith, less)) longer.near
    through
    (subst (λ (n : ℕ). IsDistance passes start before.cell n) same shorter.near) in
    let came = came_straight passes hit start dir states before follows straight enters in
    let here = straight_stop passes hit came.0 before dir came.1.0 came.1.1 straight in
    let there = straight_stop passes hit kept to dir longer.jump longer.arrived straight in
    let all = one_count passes dir there.count run kept.cell to.cell there.run longer.steps in
    let some = shorter.some in
    there.first (run - count) before.cell (omega (arith, less)) (omega (arith, less, all, some)) through here.halts

diagonal_halts : (passes hit : Cell → Bool) (start : Cell) (dir : Dir) (to kept before : JumpState) (run count : ℕ)
    (way : Dir) (grand : JumpState)
    → IsJump passes hit grand kept → kept.arrived ≡ Some way → Enters passes start kept.cell way
    → IsFirstIn (Enters passes start kept.cell) preference dir → is_straight dir ≡ false
    → IsJump passes hit kept to → to.arrived ≡ Some dir → IsJump passes hit before to → to.arrived ≡ Some dir
    → IsRun passes dir count before.cell to.cell → IsRun passes dir (count - run) before.cell kept.cell → run < count
    → 0 < run → ⊥
diagonal_halts passes hit start dir to kept before run count way grand into arrived enters first diagonal jump by longer
    too steps through less some =
    elim (cases_Bool (is_straight way)) [
      | inl straight ↦ false≢true (sym diagonal
          ∙ straight_first (Enters passes start kept.cell) dir way straight enters first)
      | inr slant ↦
          let taken : jump.dir ≡ dir = same_Some jump.dir dir (sym jump.arrived ∙ by) in
          let P = λ (d : Dir) (from : Option Dir). IsSuccessor passes kept.cell from d in
          let successor : IsSuccessor passes kept.cell (Some way) dir =
          subst (λ (from : Option Dir). P dir from) arrived
          (subst (λ (d : Dir). P d kept.arrived) taken jump.successor) in
          let same = came_diagonal passes kept.cell way dir slant diagonal successor in
          let here = diagonal_stop passes hit grand kept dir into (arrived ∙ ap (λ (d : Dir). Some d) same) diagonal in
          let there = diagonal_stop passes hit before to dir longer too diagonal in
          let all = one_count passes dir there.count count before.cell to.cell there.run steps in
          there.first (count - run) kept.cell (omega (arith, less)) (omega (arith, less, all, some)) through here.halts
    ]

-- a diagonal run that is shorter than the followed one begins where that one would have halted
no_shorter_diagonal : (passes hit : Cell → Bool) (start : Cell) (dir : Dir) (to kept before : JumpState)
    (cost run least count : ℕ)
    → HasLastRun passes hit start dir to kept cost run → HasLastRun passes hit start dir to before least count
    → ((some more : ℕ) (cell : Cell) → 0 < some → 0 < more → IsRun passes dir some before.cell cell
    → IsRun passes dir more cell to.cell → IsPicked (Enters passes start cell) (Some dir) dir)
    → ((kept.cell ≡ start) ⊎ ((way : Dir) × ((grand : JumpState)
    × (IsJump passes hit grand kept × ((kept.arrived ≡ Some way) × Enters passes start kept.cell way)))))
    → is_straight dir ≡ false → run < count → ⊥
no_shorter_diagonal passes hit start dir to kept before cost run least count shorter longer inside origin diagonal less
    =
    let through = run_through passes dir run count before.cell kept.cell to.cell less longer.steps shorter.steps in
    let first : IsFirstIn (Enters passes start kept.cell) preference dir =
    elim (inside (count - run) run kept.cell (omega (arith, less)) shorter.some through shorter.steps) [
      | inl on ↦ absurd (false≢true (sym diagonal ∙ on.0.0))
      | inr turn ↦ turn.1
    ] in
    let enters = first_within (Enters passes start kept.cell) preference dir first in
    elim origin [
      | inl at_start ↦ entered_away passes start kept.cell dir enters (sym at_start)
      | inr came ↦ diagonal_halts passes hit start dir to kept before run count came.0 came.1.0 came.1.1.0 came.1.1.1.0
          came.1.1.1.1 first diagonal
          shorter.jump shorter.arrived longer.jump longer.arrived longer.steps through less shorter.some
    ]

-- the run that is kept is the one that is followed
pub one_last_run : (passes hit : Cell → Bool) (start : Cell) (dir : Dir) (to kept before : JumpState)
    (states : List JumpState) (cost run least count : ℕ)
    → HasLastRun passes hit start dir to kept cost run → HasLastRun passes hit start dir to before least count
    → Follows passes hit start (Some dir) states before
    → ((some more : ℕ) (cell : Cell) → 0 < some → 0 < more → IsRun passes dir some before.cell cell
    → IsRun passes dir more cell to.cell → IsPicked (Enters passes start cell) (Some dir) dir)
    → ((kept.cell ≡ start) ⊎ ((way : Dir) × ((grand : JumpState)
    × (IsJump passes hit grand kept × ((kept.arrived ≡ Some way) × Enters passes start kept.cell way)))))
    → IsKeptRun (Some dir) run count → run ≡ count
one_last_run passes hit start dir to kept before states cost run least count one two follows inside origin
    (inl straight) =
    let most = straight.1 in
    elim (cases_lt count run) [
      | inl longer ↦ absurd (no_longer_straight passes hit start dir to kept before states cost run least count one two
          follows straight.0 longer)
      | inr within ↦ omega (arith, most, within)
    ]
one_last_run passes hit start dir to kept before states cost run least count one two follows inside origin
    (inr diagonal) =
    let most = diagonal.1 in
    elim (cases_lt run count) [
      | inl shorter ↦ absurd (no_shorter_diagonal passes hit start dir to kept before cost run least count one two
          inside origin diagonal.0 shorter)
      | inr within ↦ omega (arith, most, within)
    ]

-- what is chosen along a run

chosen_inside : (passes : Cell → Bool) (start from to : Cell) (dir : Dir) (rest : List Dir)
    → ((some more : ℕ) (cell : Cell) → 0 < some → 0 < more → IsRun passes dir some from cell
    → IsRun passes dir more cell to → IsPicked (Enters passes start cell) (Some dir) dir)
    → IsChosenBack passes start (Some dir) rest from → (some more : ℕ) (cell : Cell) → 0 < more
    → IsRun passes dir some from cell
    → IsRun passes dir more cell to → IsChosenBack passes start (Some dir) (replicate some dir ++ rest) cell
chosen_inside passes start from to dir rest inside chosen zero more cell left run ahead =
    subst (λ (c : Cell). IsChosenBack passes start (Some dir) rest c) run chosen
chosen_inside passes start from to dir rest inside chosen (suc some) more cell left run ahead =
    let last = run_last passes dir some from cell run in
    let step = last.1.1 in
    let picked = inside (suc some) more cell (omega arith) left run ahead in
    let enters = picked_within (Enters passes start cell) (Some dir) dir picked in (
      entered_away passes start cell dir enters,
      (
        picked,
        (
          last.0,
          (
            step.leads,
            chosen_inside passes start from to dir rest inside chosen some (suc more) last.0 (omega arith)
                last.1.0 (cell, (step, ahead)),
          ),
        ),
      ),
    )

pub chosen_run : (passes : Cell → Bool) (start from to : Cell) (next : Option Dir) (dir : Dir) (rest : List Dir)
    (count : ℕ)
    → ((some more : ℕ) (cell : Cell) → 0 < some → 0 < more → IsRun passes dir some from cell
    → IsRun passes dir more cell to → IsPicked (Enters passes start cell) (Some dir) dir)
    → IsPicked (Enters passes start to) next dir → 0 < count → IsRun passes dir count from to
    → IsChosenBack passes start (Some dir) rest from → IsChosenBack passes start next (replicate count dir ++ rest) to
chosen_run passes start from to next dir rest zero inside picked some run chosen = absurd (omega (arith, some))
chosen_run passes start from to next dir rest (suc count) inside picked some run chosen =
    let last = run_last passes dir count from to run in
    let step = last.1.1 in
    let enters = picked_within (Enters passes start to) next dir picked in (
      entered_away passes start to dir enters,
      (
        picked,
        (
          last.0,
          (
            step.leads,
            chosen_inside passes start from to dir rest inside chosen count 1 last.0 (omega arith) last.1.0
                (to, (step, refl)),
          ),
        ),
      ),
    )
