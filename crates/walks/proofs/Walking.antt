-- Walks with one step more at their end, and the last step of a walk of least cost.
use Rattle.std.proofs.Common.{ℕ, ◌≡◌, ◌≢◌, ◌+◌, ◌≤◌, Bool, List, [], ◌∷◌, ◌++◌, refl, subst, arith}
use Rattle.std.proofs.lemmas.List.Sums.{sum_by-cons}
use Rattle.nav_types.specs.declared.cells.Cell.{Cell}
use Rattle.nav_types.specs.declared.directions.Dir.{Dir}
use Rattle.nav_types.specs.Directions.{step_cost}
use Rattle.nav_types.specs.Walks.{Step, IsWalk, walk_cost, IsDistance}
use Rattle.walks.specs.Chosen.{Enters}
use Rattle.nav_types.proofs.Walking.{IsWalk-push, walk_cost-push}

-- a walk by its last step
pub record EndsBy (passes : Cell → Bool) (from to : Cell) (dirs : List Dir) : Type 0 where
  pub front : List Dir
  pub last : Dir
  pub before : Cell
  pub walk : IsWalk passes from front before
  pub step : Step passes last before to
  pub cost : walk_cost dirs ≡ walk_cost front + step_cost last

pub last_step : (passes : Cell → Bool) (first : Dir) (dirs : List Dir) (from to : Cell) → IsWalk passes from (first ∷ dirs) to → EndsBy passes from to (first ∷ dirs)
last_step passes first [] from to walk =
    let P = λ (c : Cell). Step passes first from c in
    record { front = []; last = first; before = from; walk = refl; step = subst P walk.1.1 walk.1.0; cost = refl }
last_step passes first (second ∷ dirs) from to walk =
    let rest = last_step passes second dirs walk.0 to walk.1.1 in
    record {
      front = first ∷ rest.front;
      last = rest.last;
      before = rest.before;
      walk = (walk.0, (walk.1.0, rest.walk));
      step = rest.step;
      cost = let e = rest.cost in omega (arith, sum_by-cons step_cost first (second ∷ dirs), sum_by-cons step_cost first rest.front);
    }

-- a cell other than the start that a walk joins is entered by some direction
entered : (passes : Cell → Bool) (start cell : Cell) (dirs : List Dir) (cost : ℕ) → IsWalk passes start dirs cell → walk_cost dirs ≡ cost → start ≢ cell
    → ((others : List Dir) → IsWalk passes start others cell → cost ≤ walk_cost others) → (dir : Dir) × Enters passes start cell dir
entered passes start cell [] cost walk e away least = absurd (away walk)
entered passes start cell (first ∷ dirs) cost walk e away least =
    let end = last_step passes first dirs start cell walk in
    let sums = end.cost in
    let near : IsDistance passes start end.before (walk_cost end.front) = record {
      walk = (end.front, (end.walk, refl));
      least = λ others other. omega (arith, least (others ++ end.last ∷ []) (IsWalk-push passes others start end.before cell end.last other end.step), walk_cost-push others end.last);
    } in
    let same : cost ≡ walk_cost end.front + step_cost end.last = omega arith in
    let far : IsDistance passes start cell (walk_cost end.front + step_cost end.last) = record {
      walk = (first ∷ dirs, (walk, sums));
      least = λ others other. omega (arith, least others other);
    } in
    (end.last, record { before = end.before; step = end.step; cost = walk_cost end.front; near = near; far = far })

pub some_enters : (passes : Cell → Bool) (start cell : Cell) (cost : ℕ) → IsDistance passes start cell cost → start ≢ cell → (dir : Dir) × Enters passes start cell dir
some_enters passes start cell cost distance away =
    entered passes start cell distance.walk.0 cost distance.walk.1.0 distance.walk.1.1 away distance.least
