-- The chosen walk, traced back over the nodes of a search that has ended.
use Rattle.std.proofs.Common.{ℕ, zero, suc, ◌≡◌, ◌≢◌, ◌+◌, ◌-◌, ◌*◌, ◌<◌, ◌≤◌, ◌⊎◌, Bool, IsTrue}
use Rattle.std.proofs.Common.{List, [], ◌∷◌, ◌++◌, Option, Some, None, inl, inr, refl, sym, subst, ap, ◌∙◌, arith}
use Rattle.std.proofs.Common.{replicate, reverse, append_assoc}
use Rattle.std.specs.Prelude.{slice_get}
use Rattle.std.proofs.Math.Nat.{mul-le-mul_right}
use Rattle.std.proofs.lemmas.Bool.{cases_eq}
use Rattle.std.proofs.lemmas.List.{append-nil, reverse-append, reverse-reverse, replicate-append-replicate}
use Rattle.std.proofs.lemmas.List.Sums.{sum_by-append}
use Rattle.std.proofs.lemmas.Option.{same_Some, none-some}
use Rattle.nav_types.specs.declared.cells.Cell.{Cell}
use Rattle.nav_types.specs.declared.directions.Dir.{Dir}
use Rattle.nav_types.specs.Directions.{step_cost}
use Rattle.nav_types.specs.Walks.{IsWalk, walk_cost, IsDistance}
use Rattle.nav_types.proofs.Walking.{IsWalk-append, IsWalk-passes, IsDistance-unique}
use Rattle.walks.specs.Waypoints.{IsInGrid}
use Rattle.walks.specs.Chosen.{Enters, IsPicked, IsChosenBack}
use Rattle.jump_scan.specs.Stops.{IsRun}
use Rattle.jump_search.specs.declared.nodes.Node.{Node}
use Rattle.jump_search.specs.declared.states.JumpState.{JumpState}
use Rattle.jump_search.specs.Estimates.{IsConsistent}
use Rattle.jump_search.specs.JumpStates.{IsJump, octile_between, start_state, AreJumps, jumps_cost}
use Rattle.jump_search.specs.inner.Following.{IsFollowed, Follows}
use Rattle.jump_search.specs.inner.Searched.{IsKeptRun, AreMet, IsSearched}
use Rattle.jump_search.specs.inner.Traced.{HasRun, IsExact, IsTraced, IsTraceable}
use Rattle.jump_search.specs.inner.Traced.{Moves}
use Rattle.jump_search.proofs.Measuring.{run_moves, falls_along, octile_run, run_cost}
use Rattle.jump_search.proofs.Measuring.{jumped, Walked, jumps_walk}
use Rattle.jump_search.proofs.Stable.{chosen_stable}
use Rattle.jump_search.proofs.Bounding.{IsClosed, jump_relaxed, node_least, none_cheaper, followed_opened}
use Rattle.jump_search.proofs.Ending.{goes_by_states, closed_end, end_distance}
use Rattle.jump_search.proofs.LastRuns.{one_count, moves_from_same, run_from_same, begin_distance, run_enters}
use Rattle.jump_search.proofs.LastRuns.{one_pick, HasLastRun, one_last_run, chosen_run}

-- one node of a place and one place of a state

pub same_node : (nodes : List Node) (p q : ℕ) (a b : Node) → slice_get nodes p ≡ Some a → slice_get nodes q ≡ Some b
    → p ≡ q → a ≡ b
same_node nodes p q a b at_p at_q same = let e : Some a ≡ Some b = sym at_p ∙ (ap (slice_get nodes) same ∙ at_q) in cc

pub one_node : (passes hit : Cell → Bool) (start : Cell) (nodes : List Node) → AreMet passes hit start nodes
    → (p q : ℕ) (a b : Node)
    → slice_get nodes p ≡ Some a → slice_get nodes q ≡ Some b → a.state ≡ b.state → a ≡ b
one_node passes hit start nodes met p q a b at_p at_q same =
    same_node nodes p q a b at_p at_q (met.once p q a b at_p at_q same)

-- a node that was reached by a jump
record ByJump (passes hit : Cell → Bool) (nodes : List Node) (node : Node) (dir : Dir) : Type 0 where
  place : ℕ
  parent : Node
  known : slice_get nodes place ≡ Some parent
  opened : IsTrue parent.opened
  jump : IsJump passes hit parent.state node.state
  steps : IsRun passes dir node.run parent.state.cell node.state.cell
  some : 0 < node.run
  sums : node.cost ≡ parent.cost + node.run * step_cost dir

not_start : (start : Cell) (state : JumpState) (d : Dir) → state ≡ start_state start → state.arrived ≡ Some d → ⊥
not_start start state d is arrived = none-some d (sym (ap (λ (s : JumpState). s.arrived) is) ∙ arrived)

by_jump : (passes hit : Cell → Bool) (start : Cell) (nodes : List Node) → AreMet passes hit start nodes
    → (place : ℕ) (node : Node)
    → slice_get nodes place ≡ Some node → (dir : Dir) → node.state.arrived ≡ Some dir → ByJump passes hit nodes node dir
by_jump passes hit start nodes met place node known dir arrived =
    let first = met.first in
    let later : 0 < place = elim (cases_eq place 0) [
      | inl here ↦
          let at_start : first.0 ≡ node = same_node nodes 0 place first.0 node first.1.0 known (sym here) in
          absurd (not_start start first.0.state dir first.1.1.0 (ap (λ (n : Node). n.state.arrived) at_start ∙ arrived))
      | inr other ↦ omega arith
    ] in
    let parent = met.parents place node known later in
    let last = parent.last in
    let way : last.0 ≡ dir = same_Some last.0 dir (sym last.1.0 ∙ arrived) in
    let steps : IsRun passes dir node.run parent.parent.state.cell node.state.cell =
    subst (λ (d : Dir). IsRun passes d node.run parent.parent.state.cell node.state.cell) way last.1.1 in
    let jump = jumped passes hit parent.parent.state node.state parent.jump in
    let gone : jump.dir ≡ dir = same_Some jump.dir dir (sym jump.arrived ∙ arrived) in
    let run : IsRun passes dir jump.count parent.parent.state.cell node.state.cell =
    subst (λ (d : Dir). IsRun passes d jump.count parent.parent.state.cell node.state.cell) gone jump.run in
    let all = one_count passes dir jump.count node.run parent.parent.state.cell node.state.cell run steps in
    let some = jump.some in
    let cost = octile_run passes dir node.run parent.parent.state.cell node.state.cell steps in
    let sums = parent.cost in
    record {
      place = parent.place;
      parent = parent.parent;
      known = parent.known;
      opened = parent.opened;
      jump = parent.jump;
      steps = steps;
      some = omega (arith, some, all);
      sums = omega (arith, cost, sums);
    }

-- the walk of a node's jumps
node_walked : (passes hit : Cell → Bool) (start : Cell) (nodes : List Node) → AreMet passes hit start nodes
    → (place : ℕ) (node : Node)
    → slice_get nodes place ≡ Some node → Walked passes start node.state.cell node.cost
node_walked passes hit start nodes met place node known =
    let reached = met.reached place node known in
    subst (λ (n : ℕ). Walked passes start node.state.cell n) reached.1.1
    (jumps_walk passes hit start reached.0 node.state reached.1.0)

-- the last run to a node whose cost is the distance
last_run : (passes hit : Cell → Bool) (start : Cell) (nodes : List Node) (met : AreMet passes hit start nodes)
    (node : Node) (dir : Dir)
    → node.state.arrived ≡ Some dir → IsDistance passes start node.state.cell node.cost
    → (by : ByJump passes hit nodes node dir)
    → HasLastRun passes hit start dir node.state by.parent.state by.parent.cost node.run
last_run passes hit start nodes met node dir arrived distance by =
    let far : IsDistance passes start node.state.cell (by.parent.cost + node.run * step_cost dir) =
    subst (λ (n : ℕ). IsDistance passes start node.state.cell n) by.sums distance in
    let walked = node_walked passes hit start nodes met by.place by.parent by.known in
    record {
      jump = by.jump;
      arrived = arrived;
      some = by.some;
      steps = by.steps;
      near = begin_distance passes start by.parent.state.cell node.state.cell by.parent.cost dir node.run walked
          by.steps far;
      far = far;
    }

-- so the chosen walk may enter the cell by it
last_enters : (passes hit : Cell → Bool) (start : Cell) (dir : Dir) (to before : JumpState) (cost run : ℕ)
    → HasLastRun passes hit start dir to before cost run → Enters passes start to.cell dir
last_enters passes hit start dir to before cost run last =
    run_enters passes start before.cell to.cell cost dir run last.some last.near last.steps last.far

origin_by : (passes hit : Cell → Bool) (start : Cell) (nodes : List Node) → AreMet passes hit start nodes
    → (place : ℕ) (node : Node)
    → slice_get nodes place ≡ Some node → IsDistance passes start node.state.cell node.cost → (before : List JumpState)
    → AreJumps passes hit start before node.state
    → (node.state.cell ≡ start) ⊎ ((way : Dir)
    × ((grand : JumpState) × (IsJump passes hit grand node.state
    × ((node.state.arrived ≡ Some way) × Enters passes start node.state.cell way))))
origin_by passes hit start nodes met place node known distance [] jumps = inl (ap (λ (s : JumpState). s.cell) jumps)
origin_by passes hit start nodes met place node known distance (before ∷ rest) jumps =
    let way = jumps.0.dir in
    let arrived = jumps.0.arrived in
    let by = by_jump passes hit start nodes met place node known way arrived in
    let last = last_run passes hit start nodes met node way arrived distance by in
    inr (
      way,
      (
        by.parent.state,
        (
          by.jump,
          (
            arrived,
            last_enters passes hit start way node.state by.parent.state
                by.parent.cost node.run last,
          ),
        ),
      ),
    )

-- how a node whose cost is the distance was reached: it is the start's, or a jump that the chosen walk may take came to
-- it
pub origin_of : (passes hit : Cell → Bool) (start : Cell) (nodes : List Node) → AreMet passes hit start nodes
    → (place : ℕ) (node : Node)
    → slice_get nodes place ≡ Some node → IsDistance passes start node.state.cell node.cost
    → (node.state.cell ≡ start) ⊎ ((way : Dir)
    × ((grand : JumpState) × (IsJump passes hit grand node.state
    × ((node.state.arrived ≡ Some way) × Enters passes start node.state.cell way))))
origin_of passes hit start nodes met place node known distance =
    let reached = met.reached place node known in
    origin_by passes hit start nodes met place node known distance reached.0 reached.1.0

-- the node of a cell's exact run

run_at : (nodes : List Node) (cell : Cell) (cost : ℕ) (dir : Dir) (run : ℕ) (has : HasRun nodes cell cost dir run)
    → has.node.state.cell ≡ cell
run_at nodes cell cost dir run has = ap (λ (s : JumpState). s.cell) has.state

run_arrived : (nodes : List Node) (cell : Cell) (cost : ℕ) (dir : Dir) (run : ℕ) (has : HasRun nodes cell cost dir run)
    → has.node.state.arrived ≡ Some dir
run_arrived nodes cell cost dir run has = ap (λ (s : JumpState). s.arrived) has.state

-- the parent of a cell's exact run
pub record HasBegin (passes hit : Cell → Bool) (start : Cell) (nodes : List Node) (cell : Cell) (cost : ℕ) (dir : Dir)
    (run : ℕ) : Type 0 where
  pub place : ℕ
  pub parent : Node
  pub known : slice_get nodes place ≡ Some parent
  pub opened : IsTrue parent.opened
  pub last : HasLastRun passes hit start dir (record { cell = cell; arrived = Some dir }) parent.state parent.cost run
  pub sums : cost ≡ parent.cost + run * step_cost dir

pub begin_of : (passes hit : Cell → Bool) (start : Cell) (nodes : List Node) → AreMet passes hit start nodes
    → (cell : Cell) (cost : ℕ) (dir : Dir) (run : ℕ)
    → IsDistance passes start cell cost → HasRun nodes cell cost dir run
    → HasBegin passes hit start nodes cell cost dir run
begin_of passes hit start nodes met cell cost dir run distance has =
    let arrived = run_arrived nodes cell cost dir run has in
    let here = run_at nodes cell cost dir run has in
    let by = by_jump passes hit start nodes met has.place has.node has.known dir arrived in
    let there : IsDistance passes start has.node.state.cell cost =
    subst (λ (c : Cell). IsDistance passes start c cost) (sym here) distance in
    let exact : IsDistance passes start has.node.state.cell has.node.cost =
    subst (λ (n : ℕ). IsDistance passes start has.node.state.cell n) (sym has.costs) there in
    let last = last_run passes hit start nodes met has.node dir arrived exact by in
    let P = λ (s : JumpState). HasLastRun passes hit start dir s by.parent.state by.parent.cost has.node.run in
    let Q = λ (n : ℕ). HasLastRun passes hit start dir (record { cell = cell; arrived = Some dir }) by.parent.state
    by.parent.cost n in
    let sums = by.sums in let costs = has.costs in
    let times : has.node.run * step_cost dir ≡ run * step_cost dir = ap (λ (n : ℕ). n * step_cost dir) has.runs in
    record {
      place = by.place;
      parent = by.parent;
      known = by.known;
      opened = by.opened;
      last = subst Q has.runs (subst P has.state last);
      sums = omega (arith, sums, costs, times);
    }

pub exact_enters : (passes hit : Cell → Bool) (start : Cell) (nodes : List Node) → AreMet passes hit start nodes
    → (cell : Cell) (cost : ℕ)
    → IsDistance passes start cell cost → (dir : Dir) → IsExact nodes cell cost dir → Enters passes start cell dir
exact_enters passes hit start nodes met cell cost distance dir exact =
    let begin = begin_of passes hit start nodes met cell cost dir exact.0 distance exact.1 in
    last_enters passes hit start dir (record { cell = cell; arrived = Some dir }) begin.parent.state begin.parent.cost
    exact.0 begin.last

-- the followed state and the exact run of its cell

-- the jumps by which a chosen walk goes
follows_jumps : (passes hit : Cell → Bool) (start : Cell) (next : Option Dir) (states : List JumpState)
    (state : JumpState)
    → Follows passes hit start next states state → AreJumps passes hit start states state
follows_jumps passes hit start next [] state follows = follows
follows_jumps passes hit start next (before ∷ rest) state follows =
    (follows.1.0.jump, follows_jumps passes hit start state.arrived rest before follows.1.1)

-- what is known of a followed jump to the cell
record Came (passes hit : Cell → Bool) (start : Cell) (rest : List JumpState) (cell : Cell) (next : Option Dir)
    (dir : Dir) (before : JumpState) : Type 0 where
  count : ℕ
  last : HasLastRun passes hit start dir (record { cell = cell; arrived = Some dir }) before (jumps_cost rest before)
      count
  picked : IsPicked (Enters passes start cell) next dir
  inside : (some more : ℕ) (middle : Cell) → 0 < some → 0 < more → IsRun passes dir some before.cell middle
      → IsRun passes dir more middle cell → IsPicked (Enters passes start middle) (Some dir) dir
  follows : Follows passes hit start (Some dir) rest before

came_by : (passes hit : Cell → Bool) (start : Cell) (next : Option Dir) (before : JumpState) (rest : List JumpState)
    (state : JumpState)
    (followed : IsFollowed passes hit start next before state)
    → IsDistance passes start state.cell (jumps_cost (before ∷ rest) state)
    → Follows passes hit start state.arrived rest before → (cell : Cell)
    → state ≡ record { cell = cell; arrived = Some followed.dir }
    → Came passes hit start rest cell next followed.dir before
came_by passes hit start next before rest state followed distance follows cell is =
    let dir = followed.dir in
    let jump = jumped passes hit before state followed.jump in
    let same : jump.dir ≡ dir = same_Some jump.dir dir (sym jump.arrived ∙ followed.arrived) in
    let steps : IsRun passes dir jump.count before.cell state.cell =
    subst (λ (d : Dir). IsRun passes d jump.count before.cell state.cell) same jump.run in
    let cost = octile_run passes dir jump.count before.cell state.cell steps in
    let far : IsDistance passes start state.cell (jumps_cost rest before + jump.count * step_cost dir) =
    subst (λ (n : ℕ). IsDistance passes start state.cell n) (ap (λ (n : ℕ). jumps_cost rest before + n) cost)
    distance in
    let walked = jumps_walk passes hit start rest before
    (follows_jumps passes hit start state.arrived rest before follows) in
    let last : HasLastRun passes hit start dir state before (jumps_cost rest before) jump.count = record {
      jump = followed.jump;
      arrived = followed.arrived;
      some = jump.some;
      steps = steps;
      near = begin_distance passes start before.cell state.cell (jumps_cost rest before) dir jump.count walked steps
          far;
      far = far;
    } in
    let here : state.cell ≡ cell = ap (λ (s : JumpState). s.cell) is in
    record {
      count = jump.count;
      last = subst (λ (s : JumpState). HasLastRun passes hit start dir s before (jumps_cost rest before) jump.count) is
          last;
      picked = subst (λ (c : Cell). IsPicked (Enters passes start c) next dir) here followed.picked;
      inside = λ some more middle first second run ahead.
          followed.inside some more middle first second run
          (subst (λ (c : Cell). IsRun passes dir more middle c) (sym here) ahead);
      follows = subst (λ (from : Option Dir). Follows passes hit start from rest before) followed.arrived follows;
    }

-- the exact run of the cell in the followed direction is the followed one
kept_is_followed : (all : Bool) (passes hit : Cell → Bool) (start : Cell) (ahead : Cell → ℕ) (bound : ℕ) (nodes : List Node)
    → IsClosed all passes hit start ahead bound nodes
    → (cell : Cell) (cost : ℕ) (next : Option Dir) (dir : Dir) (run : ℕ)
    → IsDistance passes start cell cost → cost + ahead cell ≤ bound → (has : HasRun nodes cell cost dir run)
    → (rest : List JumpState) (before : JumpState) (came : Came passes hit start rest cell next dir before)
    → run ≡ came.count
kept_is_followed all passes hit start ahead bound nodes ended cell cost next dir run distance near has rest before came =
    let last = came.last in
    let to : JumpState = record { cell = cell; arrived = Some dir } in
    let begin = begin_of passes hit start nodes ended.met cell cost dir run distance has in
    let whole : cost ≡ jumps_cost rest before + came.count * step_cost dir =
    IsDistance-unique passes start cell cost _ distance last.far in
    let through = falls_along passes hit ahead ended.consistent dir came.count before.cell cell last.steps in
    let between = octile_run passes dir came.count before.cell cell last.steps in
    let from = followed_opened all passes hit start ahead bound nodes ended (Some dir) rest before came.follows
    (omega (arith, near, through, between, whole)) in
    let least = node_least passes hit start nodes ended.met from.place from.node from.known before.cell
    (ap (λ (s : JumpState). s.cell) from.same) (jumps_cost rest before) last.near in
    let cheap = from.cheap in
    let relaxed = jump_relaxed all passes hit start ahead bound nodes ended before to (jumps_cost rest before) from
    last.jump came.count (dir, (refl, last.steps)) (omega (arith, near, whole, between, cheap))
    (λ some cheaper. none_cheaper passes hit start nodes ended.met cell cell refl
    (from.node.cost + octile_between before.cell cell) cost distance (omega (arith, cheap, between, whole))
    cheaper) in
    let one : relaxed.node ≡ has.node = one_node passes hit start nodes ended.met relaxed.place has.place relaxed.node
    has.node relaxed.known has.known (relaxed.same ∙ sym has.state) in
    let costs : relaxed.node.cost ≡ has.node.cost = ap (λ (n : Node). n.cost) one in
    let is = has.costs in
    let kept = relaxed.kept (omega (arith, costs, is, whole, between, least, cheap)) in
    let runs : relaxed.node.run ≡ run = ap (λ (n : Node). n.run) one ∙ has.runs in
    one_last_run passes hit start dir to begin.parent.state before rest begin.parent.cost run (jumps_cost rest before)
    came.count begin.last last came.follows came.inside
    (origin_of passes hit start nodes ended.met begin.place begin.parent begin.known begin.last.near)
    (subst (λ (n : ℕ). IsKeptRun (Some dir) n came.count) runs kept)

-- the followed direction is exact
followed_exact : (all : Bool) (passes hit : Cell → Bool) (start : Cell) (ahead : Cell → ℕ) (bound : ℕ) (nodes : List Node)
    → IsClosed all passes hit start ahead bound nodes → (next : Option Dir) (states : List JumpState) (state : JumpState)
    → Follows passes hit start next states state → (cell : Cell) (cost : ℕ) (dir : Dir)
    → state ≡ record { cell = cell; arrived = Some dir }
    → IsDistance passes start cell cost → cost ≡ jumps_cost states state → cost + ahead cell ≤ bound
    → IsExact nodes cell cost dir
followed_exact all passes hit start ahead bound nodes ended next states state follows cell cost dir is distance sums near
    =
    let here : state.cell ≡ cell = ap (λ (s : JumpState). s.cell) is in
    let there : ahead state.cell ≡ ahead cell = ap ahead here in
    let found = followed_opened all passes hit start ahead bound nodes ended next states state follows
    (omega (arith, near, sums, there)) in
    let least = node_least passes hit start nodes ended.met found.place found.node found.known cell
    (ap (λ (s : JumpState). s.cell) found.same ∙ here) cost distance in
    let cheap = found.cheap in (
      found.node.run,
      record {
        place = found.place;
        node = found.node;
        known = found.known;
        state = found.same ∙ is;
        costs = omega (arith, least, cheap, sums);
        runs = refl;
      },
    )

same_state : (state : JumpState) (cell : Cell) (arrived : Option Dir) → state.cell ≡ cell → state.arrived ≡ arrived
    → state ≡ record { cell = cell; arrived = arrived }
same_state state cell arrived here came =
    let one : Cell → JumpState = λ c. record { cell = c; arrived = state.arrived } in
    let two : Option Dir → JumpState = λ way. record { cell = cell; arrived = way } in
    ap one here ∙ ap two came

-- one run back

pub step_back : (all : Bool) (passes hit : Cell → Bool) (start : Cell) (ahead : Cell → ℕ) (bound : ℕ) (nodes : List Node)
    → IsClosed all passes hit start ahead bound nodes
    → (cell : Cell) (cost : ℕ) (next : Option Dir) (dir : Dir) (run : ℕ) → start ≢ cell
    → IsDistance passes start cell cost → cost + ahead cell ≤ bound
    → IsPicked (IsExact nodes cell cost) next dir
    → HasRun nodes cell cost dir run → (from : Cell) → IsRun passes dir run from cell
    → (states : List JumpState) (state : JumpState) → state.cell ≡ cell → Follows passes hit start next states state
    → ((earlier : List JumpState) (before : JumpState) → before.cell ≡ from
    → Follows passes hit start (Some dir) earlier before
    → ((rest : List Dir) → IsChosenBack passes start (Some dir) rest from
    → IsChosenBack passes start next (replicate run dir ++ rest) cell) → ⊥) → ⊥
step_back all passes hit start ahead bound nodes ended cell cost next dir run away distance near picked has from steps []
    state at follows none =
    away (sym (ap (λ (s : JumpState). s.cell) follows) ∙ at)
step_back all passes hit start ahead bound nodes ended cell cost next dir run away distance near picked has from steps
    (before ∷ rest) state at follows none =
    let followed = follows.1.0 in
    let is : state ≡ record { cell = cell; arrived = Some followed.dir } =
    same_state state cell (Some followed.dir) at followed.arrived in
    let there : IsDistance passes start cell (jumps_cost (before ∷ rest) state) =
    subst (λ (c : Cell). IsDistance passes start c (jumps_cost (before ∷ rest) state)) at follows.0 in
    let sums : cost ≡ jumps_cost (before ∷ rest) state = IsDistance-unique passes start cell cost _ distance there in
    let exact = followed_exact all passes hit start ahead bound nodes ended next (before ∷ rest) state follows cell cost
    followed.dir is distance sums near in
    let came = came_by passes hit start next before rest state followed follows.0 follows.1.1 cell is in
    let same : dir ≡ followed.dir = one_pick (IsExact nodes cell cost) (Enters passes start cell) next dir followed.dir
    (exact_enters passes hit start nodes ended.met cell cost distance) exact picked came.picked in
    let mine : Came passes hit start rest cell next dir before =
    subst (λ (d : Dir). Came passes hit start rest cell next d before) (sym same) came in
    let all_steps = kept_is_followed all passes hit start ahead bound nodes ended cell cost next dir run distance near
    has rest before mine in
    let last = mine.last in
    let run_here : IsRun passes dir run before.cell cell =
    subst (λ (n : ℕ). IsRun passes dir n before.cell cell) (sym all_steps) last.steps in
    let begins : before.cell ≡ from = run_from_same passes dir run before.cell from cell run_here steps in
    let some : 0 < run = (let few = last.some in omega (arith, few, all_steps)) in
    none rest before begins mine.follows
    (λ more chosen. chosen_run passes start before.cell cell next dir more run mine.inside mine.picked some run_here
    (subst (λ (c : Cell). IsChosenBack passes start (Some dir) more c) (sym begins) chosen))

-- the walk that is traced back

run_and_one : (run : ℕ) → run + 1 ≡ suc run
run_and_one run = omega arith

reverse-run : (dir : Dir) (run : ℕ) → reverse (replicate run dir) ≡ replicate run dir
reverse-run dir zero = refl
reverse-run dir (suc run) =
    reverse-append (dir ∷ []) (replicate run dir)
    ∙ (ap (λ (dirs : List Dir). dirs ++ dir ∷ []) (reverse-run dir run)
    ∙ (replicate-append-replicate run 1 dir ∙ ap (λ (n : ℕ). replicate n dir) (run_and_one run)))

pub reverse_more : (back : List Dir) (dir : Dir) (run : ℕ)
    → reverse (back ++ replicate run dir) ≡ replicate run dir ++ reverse back
reverse_more back dir run =
    reverse-append back (replicate run dir) ∙ ap (λ (dirs : List Dir). dirs ++ reverse back) (reverse-run dir run)

pub traced_at_end : (all : Bool) (passes hit : Cell → Bool) (start : Cell) (ahead : Cell → ℕ) (end : Cell) (bound : ℕ)
    (nodes : List Node)
    → IsSearched all passes hit start ahead end bound nodes → IsTrue (passes start) → IsConsistent passes hit ahead
    → IsTraced passes hit start nodes end bound end bound None []
traced_at_end all passes hit start ahead end bound nodes searched passing near =
    let ends = searched.ends.1.1 in
    let distance = end_distance all passes hit start ahead end bound nodes searched passing near in
    record {
      place = searched.ends.0;
      node = searched.ends.1.0;
      known = ends.0;
      opened = ends.1.0;
      here = ends.1.1.0;
      costs = ends.1.1.1.0;
      distance = distance;
      walk = refl;
      sums = omega arith;
      chosen = λ none. goes_by_states passes hit start passing end ends.1.1.1.1 (distance.walk.0, distance.walk.1.0)
          (λ states state at follows. none states state at follows (λ rest chosen. chosen));
    }

-- the cell is within the bound
traced_near : (all : Bool) (passes hit : Cell → Bool) (start : Cell) (ahead : Cell → ℕ) (end : Cell) (bound : ℕ)
    (nodes : List Node)
    → IsSearched all passes hit start ahead end bound nodes
    → (cell : Cell) (cost : ℕ) (next : Option Dir) (back : List Dir)
    → IsTraced passes hit start nodes end bound cell cost next back → cost + ahead cell ≤ bound
traced_near all passes hit start ahead end bound nodes searched cell cost next back traced =
    let within = searched.within traced.place traced.node traced.known traced.opened in
    let costs = traced.costs in
    let there : ahead traced.node.state.cell ≡ ahead cell = ap ahead traced.here in
    omega (arith, within, costs, there)

-- a cell other than the start has an exact run
pub traced_exact : (all : Bool) (passes hit : Cell → Bool) (start : Cell) (ahead : Cell → ℕ) (end : Cell) (bound : ℕ)
    (nodes : List Node)
    → IsSearched all passes hit start ahead end bound nodes
    → (cell : Cell) (cost : ℕ) (next : Option Dir) (back : List Dir)
    → IsTraced passes hit start nodes end bound cell cost next back → start ≢ cell → (dir : Dir)
    × IsExact nodes cell cost dir
traced_exact all passes hit start ahead end bound nodes searched cell cost next back traced away =
    let node = traced.node in
    let there : IsDistance passes start node.state.cell cost =
    subst (λ (c : Cell). IsDistance passes start c cost) (sym traced.here) traced.distance in
    let exact : IsDistance passes start node.state.cell node.cost =
    subst (λ (n : ℕ). IsDistance passes start node.state.cell n) (sym traced.costs) there in
    elim (origin_of passes hit start nodes searched.met traced.place node traced.known exact) [
      | inl at_start ↦ absurd (away (sym at_start ∙ traced.here))
      | inr came ↦ (
        came.0,
        (
          node.run,
          record {
            place = traced.place;
            node = node;
            known = traced.known;
            state = same_state node.state cell (Some came.0) traced.here came.1.1.1.0;
            costs = traced.costs;
            runs = refl;
          },
        ),
      )
    ]

-- one run more
pub traced_more : (all : Bool) (passes hit : Cell → Bool) (start : Cell) (ahead : Cell → ℕ) (end : Cell) (bound : ℕ)
    (nodes : List Node)
    → IsTrue (passes start) → IsConsistent passes hit ahead → IsSearched all passes hit start ahead end bound nodes
    → (cell : Cell) (cost : ℕ) (next : Option Dir) (back : List Dir)
    → IsTraced passes hit start nodes end bound cell cost next back → start ≢ cell → (dir : Dir) (run : ℕ)
    → IsPicked (IsExact nodes cell cost) next dir → HasRun nodes cell cost dir run → (from : Cell)
    → Moves dir run from cell → (less : ℕ)
    → less ≡ cost - run * step_cost dir → IsTraced passes hit start nodes end bound from less (Some dir)
    (back ++ replicate run dir)
traced_more all passes hit start ahead end bound nodes passing consistent searched cell cost next back traced away dir run picked has from
    moves less is =
    let near = traced_near all passes hit start ahead end bound nodes searched cell cost next back traced in
    let begin = begin_of passes hit start nodes searched.met cell cost dir run traced.distance has in
    let last = begin.last in
    let at : begin.parent.state.cell ≡ from =
    moves_from_same dir run begin.parent.state.cell from cell
    (run_moves passes dir run begin.parent.state.cell cell last.steps) moves in
    let begun = begin.sums in
    let costs : begin.parent.cost ≡ less = omega (arith, begun, is) in
    let steps : IsRun passes dir run from cell = subst (λ (c : Cell). IsRun passes dir run c cell) at last.steps in
    let there : IsDistance passes start from begin.parent.cost =
    subst (λ (c : Cell). IsDistance passes start c begin.parent.cost) at last.near in
    let turned = reverse_more back dir run in
    let sums = traced.sums in
    let longer : walk_cost (reverse (back ++ replicate run dir))
    ≡ walk_cost (replicate run dir) + walk_cost (reverse back) =
    ap walk_cost turned ∙ sum_by-append step_cost (replicate run dir) (reverse back) in
    record {
      place = begin.place;
      node = begin.parent;
      known = begin.known;
      opened = begin.opened;
      here = at;
      costs = costs;
      distance = subst (λ (n : ℕ). IsDistance passes start from n) costs there;
      walk = subst (λ (dirs : List Dir). IsWalk passes from dirs end) (sym turned)
          (IsWalk-append passes from cell end (replicate run dir) (reverse back) steps traced.walk);
      sums = omega (arith, longer, run_cost dir run, sums, begun, is);
      chosen = λ none. traced.chosen (λ states state here follows so_far.
          step_back all passes hit start ahead bound nodes (closed_end all passes hit start ahead end bound nodes searched passing consistent)
          cell cost next dir run away
          traced.distance near picked has from steps states state here follows
          (λ earlier before begins goes_on taken. none earlier before begins goes_on
          (λ rest chosen. subst (λ (dirs : List Dir). IsChosenBack passes start None dirs end)
          (sym (append_assoc back (replicate run dir) rest))
          (so_far (replicate run dir ++ rest) (taken rest chosen)))));
    }

-- what the code needs to take the run away
pub record GoesBack (passes : Cell → Bool) (start : Cell) (cell : Cell) (cost : ℕ) (dir : Dir) (run : ℕ) : Type 0 where
  pub from : Cell
  pub moves : Moves dir run from cell
  pub passing : IsTrue (passes start) → IsTrue (passes from)
  pub some : 0 < run
  pub covers : run * step_cost dir ≤ cost

pub goes_back : (passes hit : Cell → Bool) (start : Cell) (nodes : List Node) → AreMet passes hit start nodes
    → (cell : Cell) (cost : ℕ) (dir : Dir) (run : ℕ)
    → IsDistance passes start cell cost → HasRun nodes cell cost dir run → GoesBack passes start cell cost dir run
goes_back passes hit start nodes met cell cost dir run distance has =
    let begin = begin_of passes hit start nodes met cell cost dir run distance has in
    let last = begin.last in
    let walk = last.near.walk in
    let sums = begin.sums in
    record {
      from = begin.parent.state.cell;
      moves = run_moves passes dir run begin.parent.state.cell cell last.steps;
      passing = λ passing. IsWalk-passes passes walk.0 start begin.parent.state.cell passing walk.1.0;
      some = last.some;
      covers = omega (arith, sums);
    }

-- at the start the walk is whole
pub traced_whole : (passes hit : Cell → Bool) (start : Cell) (nodes : List Node) (end : Cell) (bound : ℕ) (cell : Cell)
    (cost : ℕ) (next : Option Dir) (back : List Dir)
    → IsTraced passes hit start nodes end bound cell cost next back → start ≡ cell → IsDistance passes start end bound
    → IsChosenBack passes start None back end
traced_whole passes hit start nodes end bound cell cost next back traced at distance =
    let P = λ (dirs : List Dir). IsChosenBack passes start None dirs end in
    let sums = traced.sums in
    let walk : IsWalk passes start (reverse back) end =
    subst (λ (c : Cell). IsWalk passes c (reverse back) end) (sym at) traced.walk in
    let twice : reverse (reverse back) ≡ back = reverse-reverse back in
    subst P twice (chosen_stable passes start end (reverse back) walk
    (λ others other. (let least = distance.least others other in omega (arith, least, sums)))
    (λ none. traced.chosen (λ states state here follows so_far.
    none (subst P (sym twice) (subst P (append-nil back) (so_far [] at))))))

-- over nodes that can be traced back

pub traceable_at_end : (all : Bool) (passes hit : Cell → Bool) (start : Cell) (ahead : Cell → ℕ) (end : Cell) (bound : ℕ)
    (nodes : List Node)
    → IsTraceable all passes hit start ahead end bound nodes → (back : List Dir) → back ≡ []
    → IsTraced passes hit start nodes end bound end bound None back
traceable_at_end all passes hit start ahead end bound nodes able back none =
    subst (λ (dirs : List Dir). IsTraced passes hit start nodes end bound end bound None dirs) (sym none)
    (traced_at_end all passes hit start ahead end bound nodes able.searched able.passing able.consistent)

pub traceable_back : (all : Bool) (passes hit : Cell → Bool) (start : Cell) (ahead : Cell → ℕ) (end : Cell) (bound : ℕ)
    (nodes : List Node)
    → IsTraceable all passes hit start ahead end bound nodes
    → (cell : Cell) (cost : ℕ) (next : Option Dir) (back : List Dir)
    → IsTraced passes hit start nodes end bound cell cost next back → (dir : Dir) (run : ℕ)
    → HasRun nodes cell cost dir run
    → GoesBack passes start cell cost dir run
traceable_back all passes hit start ahead end bound nodes able cell cost next back traced dir run has =
    goes_back passes hit start nodes able.searched.met cell cost dir run traced.distance has

pub traceable_from : (all : Bool) (passes hit : Cell → Bool) (start : Cell) (ahead : Cell → ℕ) (end : Cell) (bound : ℕ)
    (nodes : List Node)
    → IsTraceable all passes hit start ahead end bound nodes
    → (cell : Cell) (cost : ℕ) (next : Option Dir) (back : List Dir)
    → IsTraced passes hit start nodes end bound cell cost next back → (dir : Dir) (run : ℕ)
    → HasRun nodes cell cost dir run
    → (from : Cell) × (Moves dir run from cell × IsInGrid from)
traceable_from all passes hit start ahead end bound nodes able cell cost next back traced dir run has =
    let goes = traceable_back all passes hit start ahead end bound nodes able cell cost next back traced dir run has in
    (goes.from, (goes.moves, able.grid goes.from (goes.passing able.passing)))

-- the run that is taken away
pub traceable_run : (all : Bool) (passes hit : Cell → Bool) (start : Cell) (ahead : Cell → ℕ) (end : Cell) (bound : ℕ)
    (nodes : List Node)
    → IsTraceable all passes hit start ahead end bound nodes
    → (cell : Cell) (cost : ℕ) (next : Option Dir) (back : List Dir)
    → IsTraced passes hit start nodes end bound cell cost next back → (dir : Dir) (run : ℕ)
    → HasRun nodes cell cost dir run → (from : Cell) → Moves dir run from cell
    → IsRun passes dir run from cell × (0 < run)
traceable_run all passes hit start ahead end bound nodes able cell cost next back traced dir run has from moves =
    let begin = begin_of passes hit start nodes able.searched.met cell cost dir run traced.distance has in
    let last = begin.last in
    let at : begin.parent.state.cell ≡ from =
    moves_from_same dir run begin.parent.state.cell from cell
    (run_moves passes dir run begin.parent.state.cell cell last.steps) moves in
    (subst (λ (c : Cell). IsRun passes dir run c cell) at last.steps, last.some)

pub traceable_more : (all : Bool) (passes hit : Cell → Bool) (start : Cell) (ahead : Cell → ℕ) (end : Cell) (bound : ℕ)
    (nodes : List Node)
    → IsTraceable all passes hit start ahead end bound nodes
    → (cell : Cell) (cost : ℕ) (next : Option Dir) (back : List Dir)
    → IsTraced passes hit start nodes end bound cell cost next back → start ≢ cell → (dir : Dir) (run each : ℕ)
    → IsPicked (IsExact nodes cell cost) next dir → HasRun nodes cell cost dir run → (from : Cell)
    → Moves dir run from cell
    → each ≡ step_cost dir → (longer : List Dir) → longer ≡ back ++ replicate run dir
    → IsTraced passes hit start nodes end bound from (cost - run * each) (Some dir) longer
traceable_more all passes hit start ahead end bound nodes able cell cost next back traced away dir run each picked has
    from moves is longer more =
    subst (λ (dirs : List Dir). IsTraced passes hit start nodes end bound from (cost - run * each) (Some dir) dirs)
    (sym more)
    (traced_more all passes hit start ahead end bound nodes able.passing able.consistent able.searched cell cost next back traced away dir run picked
    has from moves (cost - run * each)
    (ap (λ (n : ℕ). cost - run * n) is))

pub traceable_whole : (all : Bool) (passes hit : Cell → Bool) (start : Cell) (ahead : Cell → ℕ) (end : Cell) (bound : ℕ)
    (nodes : List Node)
    → IsTraceable all passes hit start ahead end bound nodes
    → (cell : Cell) (cost : ℕ) (next : Option Dir) (back : List Dir)
    → IsTraced passes hit start nodes end bound cell cost next back → start ≡ cell
    → IsChosenBack passes start None back end
traceable_whole all passes hit start ahead end bound nodes able cell cost next back traced at =
    traced_whole passes hit start nodes end bound cell cost next back traced at
    (end_distance all passes hit start ahead end bound nodes able.searched able.passing able.consistent)

-- a run taken away makes a cost less
pub less_by : (cost run each step : ℕ) → each ≡ step → 0 < run → run * step ≤ cost → 0 < each → cost - run * each < cost
less_by cost run each step is some covers low =
    let one : run * each ≡ run * step = ap (λ (n : ℕ). run * n) is in
    let least : 1 * each ≤ run * each = mul-le-mul_right each (omega (arith, some)) in
    omega (arith, covers, one, least, low)
