-- A walk of least cost meets no cell twice, so it has no more steps than the largest map has cells.
use Rattle.std.proofs.Common.{◌≡◌, ℕ, suc, ◌+◌, ◌*◌, ◌<◌, ◌≤◌, Bool, true, false, IsTrue, ◌||◌, ◌⊎◌, inl, inr, List, [], ◌∷◌, length, eqb, refl, sym, subst, ap, arith}
use Rattle.std.specs.Prelude.{if◌then◌else◌}
use Rattle.std.specs.List.{list_any, IsDistinct, AllByRecursion}
use Rattle.std.proofs.lemmas.Bool.{eqb-true, false≢true}
use Rattle.std.proofs.lemmas.Bool.Decides.{eqb_tells}
use Rattle.std.proofs.lemmas.List.{length-append}
use Rattle.std.proofs.lemmas.List.Sums.{sum_by-cons}
use Rattle.std.proofs.lemmas.Map.Steps.{length-le_from_distinct_below}
use Rattle.nav_types.specs.declared.cells.Cell.{Cell}
use Rattle.nav_types.specs.declared.directions.Dir.{Dir}
use Rattle.nav_types.specs.Directions.{step_cost}
use Rattle.nav_types.specs.Walks.{IsWalk, walk_cost}
use Rattle.nav_types.proofs.CellOrder.{same_cell}
use Rattle.nav_types.proofs.Walking.{step_cost_most, step_cost_some}
use Rattle.walks.specs.Chosen.{IsAnswer}
use Rattle.walks.specs.Waypoints.{cell_after, is_corner, waypoints}
use Rattle.walks.proofs.Tracing.{chosen_walk}

-- ---- cells by their numbers in the largest map

-- a cell of the largest map
pub record IsNear (cell : Cell) : Type 0 where
  pub column : cell.i < 2048
  pub row : cell.j < 2048

abbrev number_of : Cell → ℕ
number_of cell = 2048 * cell.j + cell.i

same_number : (a b : Cell) → IsNear a → IsNear b → number_of a ≡ number_of b → a ≡ b
same_number a b near also same =
    let i = near.column in let k = also.column in
    same_cell a b (omega (arith, i, k, same)) (omega (arith, i, k, same))

low_number : (a : Cell) → IsNear a → number_of a < 4194304
low_number a near = let i = near.column in let j = near.row in omega (arith, i, j)

-- ---- the cells from which the steps of a walk lead

numbers : (passes : Cell → Bool) (from : Cell) (dirs : List Dir) (to : Cell) → IsWalk passes from dirs to → List ℕ
numbers passes from [] to walk = []
numbers passes from (dir ∷ dirs) to walk = number_of from ∷ numbers passes walk.0 dirs to walk.1.1

as_many : (passes : Cell → Bool) (from : Cell) (dirs : List Dir) (to : Cell) (walk : IsWalk passes from dirs to)
    → length (numbers passes from dirs to walk) ≡ length dirs
unfolding numbers
as_many passes from [] to walk = refl
as_many passes from (dir ∷ dirs) to walk = ap suc (as_many passes walk.0 dirs to walk.1.1)

one_of_two : (a b : Bool) → a || b ≡ true → (a ≡ true) ⊎ (b ≡ true)
one_of_two true b is = inl refl
one_of_two false b is = inr is

module _ (passes : Cell → Bool) (near : (cell : Cell) → IsTrue (passes cell) → IsNear cell) where
  all_low : (from : Cell) (dirs : List Dir) (to : Cell) (walk : IsWalk passes from dirs to) (number : ℕ)
      → list_any (eqb number) (numbers passes from dirs to walk) ≡ true → number < 4194304
  unfolding numbers
  all_low from [] to walk number among = absurd (false≢true among)
  all_low from (dir ∷ dirs) to walk number among =
      elim (one_of_two (eqb number (number_of from)) (list_any (eqb number) (numbers passes walk.0 dirs to walk.1.1)) among) [
        | inl here ↦ (let same = eqb-true number (number_of from) here in let low = low_number from (near from walk.1.0.start) in omega (arith, same, low))
        | inr later ↦ all_low walk.0 dirs to walk.1.1 number later
      ]

  -- a walk that is cheaper than each from a cell does not meet the cell
  apart : (start : Cell) (limit : ℕ) → IsNear start → (from : Cell) (dirs : List Dir) (to : Cell)
      → ((others : List Dir) → IsWalk passes start others to → limit ≤ walk_cost others)
      → (walk : IsWalk passes from dirs to) → walk_cost dirs < limit
      → AllByRecursion (λ y. eqb (number_of start) y ≡ false) (numbers passes from dirs to walk)
  unfolding numbers
  apart start limit here from [] to least walk cheap = tt
  apart start limit here from (dir ∷ dirs) to least walk cheap =
      let sums = sum_by-cons step_cost dir dirs in
      let other : eqb (number_of start) (number_of from) ≡ false = elim (eqb_tells (number_of start) (number_of from)) [
        | inl same ↦
            let one : start ≡ from = same_number start from here (near from walk.1.0.start) same.1 in
            let moved : IsWalk passes start (dir ∷ dirs) to = subst (λ (c : Cell). IsWalk passes c (dir ∷ dirs) to) (sym one) walk in
            let more = least (dir ∷ dirs) moved in
            absurd (omega (arith, more, cheap))
        | inr not ↦ not.0
      ] in
      (other, apart start limit here walk.0 dirs to least walk.1.1 (omega (arith, sums, cheap)))

  distinct : (from : Cell) (dirs : List Dir) (to : Cell) (walk : IsWalk passes from dirs to)
      → ((others : List Dir) → IsWalk passes from others to → walk_cost dirs ≤ walk_cost others)
      → IsDistinct eqb (numbers passes from dirs to walk)
  unfolding numbers IsDistinct
  distinct from [] to walk least = tt
  distinct from (dir ∷ dirs) to walk least =
      let sums = sum_by-cons step_cost dir dirs in
      let some = step_cost_some dir in (
        apart from (walk_cost (dir ∷ dirs)) (near from walk.1.0.start) walk.0 dirs to least walk.1.1 (omega (arith, sums, some)),
        distinct walk.0 dirs to walk.1.1 (λ others other.
            (let whole = least (dir ∷ others) (walk.0, (walk.1.0, other)) in
            let parts = sum_by-cons step_cost dir others in omega (arith, sums, whole, parts))),
      )

  few_steps : (from : Cell) (dirs : List Dir) (to : Cell) → IsWalk passes from dirs to
      → ((others : List Dir) → IsWalk passes from others to → walk_cost dirs ≤ walk_cost others) → length dirs ≤ 4194304
  few_steps from dirs to walk least =
      let few = length-le_from_distinct_below (numbers passes from dirs to walk) 4194304 (distinct from dirs to walk least) (all_low from dirs to walk) in
      let count = as_many passes from dirs to walk in
      omega (arith, few, count)

-- ---- costs and waypoints by steps

cost_of_steps : (dirs : List Dir) → walk_cost dirs ≤ 92682 * length dirs
cost_of_steps [] = omega arith
cost_of_steps (dir ∷ dirs) =
    let rest = cost_of_steps dirs in let sums = sum_by-cons step_cost dir dirs in let most = step_cost_most dir in
    omega (arith, rest, sums, most)

corner_length : (test : Bool) (cell : Cell) → length (if test then cell ∷ [] else []) ≤ 1
corner_length true cell = omega arith
corner_length false cell = omega arith

few_waypoints : (from : Cell) (dirs : List Dir) → length (waypoints from dirs) ≤ length dirs
few_waypoints from [] = omega arith
few_waypoints from (dir ∷ dirs) =
    let rest = few_waypoints (cell_after dir from) dirs in
    let here = corner_length (is_corner dir dirs) (cell_after dir from) in
    let both = length-append (if is_corner dir dirs then cell_after dir from ∷ [] else []) (waypoints (cell_after dir from) dirs) in
    omega (arith, rest, here, both)

-- ---- the answer of a search

pub record IsShort (cost : ℕ) (points : List Cell) : Type 0 where
  pub cheap : cost ≤ 92682 * 4194304
  pub few : length points ≤ 4194304

pub short_answer : (passes : Cell → Bool) → ((cell : Cell) → IsTrue (passes cell) → IsNear cell)
    → (start : Cell) (hit : Cell → Bool) (end : Cell) (cost : ℕ) (points : List Cell)
    → IsAnswer passes start hit end cost points → IsShort cost points
short_answer passes near start hit end cost points answer =
    let dirs = answer.walk.0 in
    let costs = answer.walk.1.1.0 in
    let walk = chosen_walk passes start end dirs answer.walk.1.0 in
    let steps = few_steps passes near start dirs end walk (λ others other. (let least = answer.nearest end others answer.is_hit other in omega (arith, least, costs))) in
    let by_steps = cost_of_steps dirs in
    let points_few = few_waypoints start dirs in
    let same = ap length answer.walk.1.1.1 in
    record { cheap = omega (arith, steps, by_steps, costs); few = omega (arith, steps, points_few, same) }
