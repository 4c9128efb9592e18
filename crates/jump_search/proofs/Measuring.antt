-- Octile distances, and what runs and jumps cost.
use Rattle.std.proofs.Common.{ℕ, zero, suc, ◌≡◌, ◌+◌, ◌-◌, ◌*◌, ◌<◌, ◌≤◌, Bool, List, [], ◌∷◌, ◌++◌, Some, inl, inr}
use Rattle.std.proofs.Common.{refl, sym, subst, ap, arith, replicate}
use Rattle.std.proofs.lemmas.List.Sums.{sum_by-cons, sum_by-append}
use Rattle.nav_types.specs.declared.cells.Cell.{Cell}
use Rattle.nav_types.specs.declared.cells.Rect.{Rect}
use Rattle.nav_types.specs.declared.directions.Dir.{Dir}
use Rattle.nav_types.specs.declared.directions.Dir.TheVariants.{N, E, S, W, NE, SE, SW, NW}
use Rattle.nav_types.specs.Directions.{step_cost}
use Rattle.nav_types.specs.Walks.{IsWalk, walk_cost}
use Rattle.nav_types.proofs.Walking.{IsWalk-append}
use Rattle.jump_scan.specs.Stops.{IsRun}
use Rattle.jump_search.specs.declared.states.JumpState.{JumpState}
use Rattle.jump_search.specs.inner.Traced.{Moves}
use Rattle.jump_search.specs.Estimates.{IsConsistent}
use Rattle.jump_search.specs.JumpStates.{IsJump, octile, octile_between, octile_to, AreJumps, jumps_cost}

-- how far a place lies outside a span, by that of another place
axis : (low high a b : ℕ) → (low - a) + (a - high) ≤ ((a - b) + (b - a)) + ((low - b) + (b - high))
axis low high a b = omega arith

octile_adds : (c one two r left right : ℕ) → c ≤ one + two → r ≤ left + right
    → octile c r ≤ octile one left + octile two right
octile_adds c one two r left right columns rows = omega arith

-- the octile distance to a rectangle is consistent
pub octile_to_through : (rect : Rect) (a b : Cell) → octile_to rect a ≤ octile_between a b + octile_to rect b
octile_to_through rect a b =
    octile_adds _ _ _ _ _ _ (axis rect.i0 rect.i1 a.i b.i) (axis rect.j0 rect.j1 a.j b.j)

pub run_moves : (passes : Cell → Bool) (dir : Dir) (count : ℕ) (from to : Cell) → IsRun passes dir count from to
    → Moves dir count from to
run_moves passes dir zero from to run =
    let columns = ap (λ (c : Cell). c.i) run in let rows = ap (λ (c : Cell). c.j) run in
    record { columns = omega arith; rows = omega arith }
run_moves passes dir (suc count) from to run =
    let next = run.0 in
    let leads = run.1.0.leads in
    let rest = run_moves passes dir count next to run.1.1 in
    let lc = leads.columns in let lr = leads.rows in let rc = rest.columns in let rr = rest.rows in
    record { columns = omega arith; rows = omega arith }

-- a run costs the octile distance of its ends
pub octile_moves : (dir : Dir) (count : ℕ) (from to : Cell) → Moves dir count from to
    → octile_between from to ≡ count * step_cost dir
octile_moves N count from to moves = let c = moves.columns in let r = moves.rows in omega arith
octile_moves E count from to moves = let c = moves.columns in let r = moves.rows in omega arith
octile_moves S count from to moves = let c = moves.columns in let r = moves.rows in omega arith
octile_moves W count from to moves = let c = moves.columns in let r = moves.rows in omega arith
octile_moves NE count from to moves = let c = moves.columns in let r = moves.rows in omega arith
octile_moves SE count from to moves = let c = moves.columns in let r = moves.rows in omega arith
octile_moves SW count from to moves = let c = moves.columns in let r = moves.rows in omega arith
octile_moves NW count from to moves = let c = moves.columns in let r = moves.rows in omega arith

pub octile_run : (passes : Cell → Bool) (dir : Dir) (count : ℕ) (from to : Cell) → IsRun passes dir count from to
    → octile_between from to ≡ count * step_cost dir
octile_run passes dir count from to run = octile_moves dir count from to (run_moves passes dir count from to run)

falls_steps : (passes hit : Cell → Bool) (ahead : Cell → ℕ) → IsConsistent passes hit ahead
    → (dir : Dir) (count : ℕ) (from to : Cell) → IsRun passes dir count from to
    → ahead from ≤ count * step_cost dir + ahead to
falls_steps passes hit ahead consistent dir zero from to run =
    let same : ahead from ≡ ahead to = ap ahead run in
    omega (arith, same)
falls_steps passes hit ahead consistent dir (suc count) from to run =
    let first = consistent.falls dir from run.0 run.1.0 in
    let rest = falls_steps passes hit ahead consistent dir count run.0 to run.1.1 in
    omega (arith, first, rest)

-- a consistent estimate falls along a run by no more than the run costs
pub falls_along : (passes hit : Cell → Bool) (ahead : Cell → ℕ) → IsConsistent passes hit ahead
    → (dir : Dir) (count : ℕ) (from to : Cell) → IsRun passes dir count from to
    → ahead from ≤ octile_between from to + ahead to
falls_along passes hit ahead consistent dir count from to run =
    let steps = falls_steps passes hit ahead consistent dir count from to run in
    let cost = octile_run passes dir count from to run in
    omega (arith, steps, cost)

pub run_cost : (dir : Dir) (count : ℕ) → walk_cost (replicate count dir) ≡ count * step_cost dir
run_cost dir zero = omega arith
run_cost dir (suc count) = omega (arith, sum_by-cons step_cost dir (replicate count dir), run_cost dir count)

-- a jump by its run
pub record Jumped (passes : Cell → Bool) (from to : JumpState) : Type 0 where
  pub dir : Dir
  pub arrived : to.arrived ≡ Some dir
  pub count : ℕ
  pub some : 0 < count
  pub run : IsRun passes dir count from.cell to.cell
  pub cost : octile_between from.cell to.cell ≡ count * step_cost dir

pub jumped : (passes hit : Cell → Bool) (from to : JumpState) → IsJump passes hit from to → Jumped passes from to
jumped passes hit from to jump = elim jump.stop [
  | inl straight ↦ let stop = straight.1 in
      record {
        dir = jump.dir;
        arrived = jump.arrived;
        count = stop.count;
        some = stop.some;
        run = stop.run;
        cost = octile_run passes jump.dir stop.count from.cell to.cell stop.run;
      }
  | inr diagonal ↦ let stop = diagonal.1 in
      record {
        dir = jump.dir;
        arrived = jump.arrived;
        count = stop.count;
        some = stop.some;
        run = stop.run;
        cost = octile_run passes jump.dir stop.count from.cell to.cell stop.run;
      }
]

-- a walk of a cost
pub record Walked (passes : Cell → Bool) (from to : Cell) (cost : ℕ) : Type 0 where
  pub dirs : List Dir
  pub walk : IsWalk passes from dirs to
  pub costs : walk_cost dirs ≡ cost

pub walked_run : (passes : Cell → Bool) (start from to : Cell) (cost : ℕ) (dir : Dir) (count : ℕ)
    → Walked passes start from cost
    → IsRun passes dir count from to → Walked passes start to (cost + count * step_cost dir)
walked_run passes start from to cost dir count walked run =
    let dirs = walked.dirs in
    let is = walked.costs in
    record {
      dirs = dirs ++ replicate count dir;
      walk = IsWalk-append passes start from to dirs (replicate count dir) walked.walk run;
      costs = omega (arith, sum_by-append step_cost dirs (replicate count dir), run_cost dir count);
    }

-- jumps are a walk of their cost
pub jumps_walk : (passes hit : Cell → Bool) (start : Cell) (before : List JumpState) (state : JumpState)
    → AreJumps passes hit start before state → Walked passes start state.cell (jumps_cost before state)
jumps_walk passes hit start [] state jumps =
    record { dirs = []; walk = sym (ap (λ (s : JumpState). s.cell) jumps); costs = refl }
jumps_walk passes hit start (before ∷ rest) state jumps =
    let jump = jumped passes hit before state jumps.0 in
    let walked = jumps_walk passes hit start rest before jumps.1 in
    subst (λ (cost : ℕ). Walked passes start state.cell cost)
    (ap (λ (n : ℕ). jumps_cost rest before + n) (sym jump.cost))
    (walked_run passes start before.cell state.cell (jumps_cost rest before) jump.dir jump.count walked jump.run)
