-- The nearest hit cell of a table, and the chosen walk back from a cell.
use Rattle.std.proofs.Common.{ℕ, zero, suc, ◌≡◌, ◌≢◌, ◌+◌, ◌*◌, ◌<◌, ◌≤◌, inl, inr, Bool, Option, Some, None, List, [], ◌∷◌, ◌++◌, IsTrue, length, get_or, sym, ap, ◌∙◌, subst, arith, append_assoc}
use Rattle.std.specs.Prelude.{reverse}
use Rattle.std.proofs.lemmas.Bool.{cases_eq}
use Rattle.std.proofs.lemmas.List.{reverse-append, reverse-reverse}
use Rattle.nav_types.specs.declared.cells.Cell.{Cell}
use Rattle.nav_types.specs.declared.cells.Size.{Size}
use Rattle.nav_types.specs.declared.directions.Dir.{Dir}
use Rattle.nav_types.specs.Cells.{IsInside, IsNotAfter}
use Rattle.nav_types.specs.Directions.{opposite, step_cost, Leads}
use Rattle.nav_types.specs.Walks.{Step, IsWalk, walk_cost, IsDistance}
use Rattle.walks.specs.Waypoints.{IsInGrid, StaysInGrid, waypoints}
use Rattle.walks.specs.Chosen.{Enters, preference, IsFirstIn, CanGoStraight, IsPicked, IsChosenBack, IsChosen, IsAnswer}
use Rattle.nav_types.specs.Walks.{CanReach}
use Rattle.nav_types.specs.Places.{place_of, cell_of}
use Rattle.walks.specs.inner.Tables.{entry, unreached, HasDistances, IsReachedCell, Arrives}
use Rattle.nav_types.proofs.CellPlaces.{place_of-lt, place_of-cell_of, cell_of-place_of, cell_of-inside, not_after}
use Rattle.nav_types.proofs.Walking.{IsWalk-push, walk_cost-push, IsWalk-passes, IsDistance-unique, leads_from_same, Leads-from_opposite, Step-opposite, Step-from_opposite, step_cost_some}

-- the least cost of a hit cell among the first places, and the first place that has it
pub record IsNearest (costs : List ℕ) (hit : ℕ → Bool) (count least best : ℕ) : Type 0 where
  pub most : least ≤ unreached
  pub found : least < unreached → (best < count) × (IsTrue (hit best) × (get_or costs best 0 ≡ least))
  pub lower : (place : ℕ) → place < count → IsTrue (hit place) → least ≤ get_or costs place 0
  pub first : (place : ℕ) → place < count → IsTrue (hit place) → get_or costs place 0 ≡ least → least < unreached → best ≤ place

-- one place more

pub nearest_none : (costs : List ℕ) (hit : ℕ → Bool) → IsNearest costs hit 0 unreached 0
nearest_none costs hit = record {
  most = omega arith;
  found = λ less. absurd (omega (arith, less));
  lower = λ place below. absurd (omega (arith, below));
  first = λ place below. absurd (omega (arith, below));
}

pub nearest_takes : (costs : List ℕ) (hit : ℕ → Bool) (count least best cost : ℕ) → IsNearest costs hit count least best
    → IsTrue (hit count) → cost ≡ get_or costs count 0 → cost < least → IsNearest costs hit (count + 1) cost count
nearest_takes costs hit count least best cost near is_hit is less = record {
  most = omega (arith, near.most);
  found = λ below. (omega arith, (is_hit, sym is));
  lower = λ place below target. elim (cases_eq place count) [
    | inl same ↦ omega (arith, is, ap (λ (k : ℕ). get_or costs k 0) same)
    | inr other ↦ omega (arith, near.lower place (omega arith) target, less)
  ];
  first = λ place below target same some. elim (cases_eq place count) [
    | inl here ↦ omega (arith, here)
    | inr other ↦ absurd (omega (arith, near.lower place (omega arith) target, less, same))
  ];
}

pub nearest_keeps : (costs : List ℕ) (hit : ℕ → Bool) (count least best : ℕ) → IsNearest costs hit count least best
    → (IsTrue (hit count) → least ≤ get_or costs count 0) → IsNearest costs hit (count + 1) least best
nearest_keeps costs hit count least best near no_less = record {
  most = near.most;
  found = λ below. let known = near.found below in (omega (arith, known.0), known.1);
  lower = λ place below target. elim (cases_eq place count) [
    | inl same ↦ (let P = λ (k : ℕ). IsTrue (hit k) in omega (arith, no_less (subst P same target), ap (λ (k : ℕ). get_or costs k 0) same))
    | inr other ↦ near.lower place (omega arith) target
  ];
  first = λ place below target same some. elim (cases_eq place count) [
    | inl here ↦ (let known = near.found some in omega (arith, known.0, here))
    | inr other ↦ near.first place (omega arith) target same some
  ];
}

-- at the end of the table

hit_at : (size : Size) (hit : Cell → Bool) (target : Cell) → IsInside size target → IsTrue (hit target) → IsTrue (hit (cell_of size (place_of size target)))
hit_at size hit target inside target_hit = let P = λ (c : Cell). IsTrue (hit c) in subst P (sym (cell_of-place_of size target inside)) target_hit

pub nearest_lower : (size : Size) (costs : List ℕ) (hit : Cell → Bool) (count least best : ℕ) → IsNearest costs (λ k. hit (cell_of size k)) count least best
    → size.w * size.h ≤ count → (target : Cell) → IsInside size target → IsTrue (hit target) → least ≤ entry size costs target
nearest_lower size costs hit count least best near whole target inside target_hit =
    near.lower (place_of size target) (omega (arith, place_of-lt size target inside)) (hit_at size hit target inside target_hit)

pub nearest_some : (size : Size) (costs : List ℕ) (hit : Cell → Bool) (count least best : ℕ) → IsNearest costs (λ k. hit (cell_of size k)) count least best
    → size.w * size.h ≤ count → (cell : Cell) × (IsTrue (hit cell) × IsReachedCell size costs cell) → least < unreached
nearest_some size costs hit count least best near whole some =
    let reached = some.1.1 in
    omega (arith, nearest_lower size costs hit count least best near whole some.0 reached.inside some.1.0, reached.walked)

-- what the cell at the best place is
pub record IsNearestCell (size : Size) (costs : List ℕ) (hit : Cell → Bool) (cell : Cell) : Type 0 where
  pub reached : IsReachedCell size costs cell
  pub is_hit : IsTrue (hit cell)
  pub nearest : (target : Cell) → IsInside size target → IsTrue (hit target) → entry size costs cell ≤ entry size costs target
  pub first : (target : Cell) → IsInside size target → IsTrue (hit target) → entry size costs target ≡ entry size costs cell → IsNotAfter cell target

nearest_at_best : (size : Size) (costs : List ℕ) (hit : Cell → Bool) (count least best : ℕ) → IsNearest costs (λ k. hit (cell_of size k)) count least best
    → count ≡ size.w * size.h → least < unreached → IsNearestCell size costs hit (cell_of size best)
nearest_at_best size costs hit count least best near whole some =
    let known = near.found some in
    let at = place_of-cell_of size best in
    let inside : IsInside size (cell_of size best) = cell_of-inside size best (omega (arith, known.0)) in
    let value : entry size costs (cell_of size best) ≡ least = ap (λ (k : ℕ). get_or costs k 0) at ∙ known.1.1 in
    record {
      reached = record { inside = inside; walked = omega arith };
      is_hit = known.1.0;
      nearest = λ target in_target target_hit. omega (arith, nearest_lower size costs hit count least best near (omega arith) target in_target target_hit);
      first = λ target in_target target_hit same.
          not_after size (cell_of size best) target inside in_target
          (omega (arith, near.first (place_of size target) (omega (arith, place_of-lt size target in_target)) (hit_at size hit target in_target target_hit) (same ∙ value) some));
    }

pub nearest_all : (size : Size) (costs : List ℕ) (hit : Cell → Bool) (count least best : ℕ) (cell : Cell) → IsNearest costs (λ k. hit (cell_of size k)) count least best
    → count ≡ size.w * size.h → least < unreached → cell ≡ cell_of size best → IsNearestCell size costs hit cell
nearest_all size costs hit count least best cell near whole some is =
    let P = λ (c : Cell). IsNearestCell size costs hit c in
    subst P (sym is) (nearest_at_best size costs hit count least best near whole some)

-- arrivals

pub arrives : (passes : Cell → Bool) (start : Cell) (size : Size) (costs : List ℕ) (cell before : Cell) (dir : Dir)
    → ((cell : Cell) → IsTrue (passes cell) → IsInside size cell) → HasDistances passes start size costs → IsReachedCell size costs cell
    → Step passes (opposite dir) cell before → entry size costs before + step_cost dir ≡ entry size costs cell
    → Arrives passes start size costs cell dir before
arrives passes start size costs cell before dir within exact reached step same =
    let here = reached.walked in
    let inside = within before step.next in
    let walked : entry size costs before < unreached = omega arith in
    let P = λ (cost : ℕ). IsDistance passes start cell cost in
    record {
      leads = Leads-from_opposite dir cell before step.leads;
      enters = record {
        before = before;
        step = Step-from_opposite passes dir cell before step;
        cost = entry size costs before;
        near = exact.distance before inside walked;
        far = subst P (sym same) (exact.distance cell reached.inside here);
      };
      reached = record { inside = inside; walked = walked };
      less = omega (arith, step_cost_some dir);
    }

pub no_step_enters : (passes : Cell → Bool) (start cell : Cell) (dir : Dir) → ((next : Cell) → Step passes (opposite dir) cell next → ⊥) → Enters passes start cell dir → ⊥
no_step_enters passes start cell dir none enters =
    none enters.before (Step-opposite passes dir enters.before cell enters.step)

pub other_cost_enters : (passes : Cell → Bool) (start : Cell) (size : Size) (costs : List ℕ) (cell before : Cell) (dir : Dir)
    → ((cell : Cell) → IsTrue (passes cell) → IsInside size cell) → HasDistances passes start size costs → IsReachedCell size costs cell
    → Step passes (opposite dir) cell before → (entry size costs before + step_cost dir ≡ entry size costs cell → ⊥)
    → Enters passes start cell dir → ⊥
other_cost_enters passes start size costs cell before dir within exact reached step other enters =
    let inside = within enters.before enters.step.start in
    let walk = enters.near.walk in
    let walked = exact.reached enters.before walk.0 inside walk.1.0 in
    let near : enters.cost ≡ entry size costs enters.before = IsDistance-unique passes start enters.before _ _ enters.near (exact.distance enters.before inside walked) in
    let far : enters.cost + step_cost dir ≡ entry size costs cell = IsDistance-unique passes start cell _ _ enters.far (exact.distance cell reached.inside reached.walked) in
    let same : enters.before ≡ before = leads_from_same dir enters.before before cell enters.step.leads (Leads-from_opposite dir cell before step.leads) in
    let moved = ap (entry size costs) same in
    other (omega arith)

-- the chosen walk

pub first_within : (Within : Dir → Type 0) (dirs : List Dir) (dir : Dir) → IsFirstIn Within dirs dir → Within dir
first_within Within [] dir found = absurd found
first_within Within (first ∷ rest) dir (inl here) = subst Within (sym here.1) here.0
first_within Within (first ∷ rest) dir (inr later) = first_within Within rest dir later.1

pub first_at : (Within : Dir → Type 0) (dirs : List Dir) (i : ℕ) (dir other : Dir) → i < length dirs → ((k : ℕ) → k < i → Within (get_or dirs k other) → ⊥)
    → dir ≡ get_or dirs i other → Within dir → IsFirstIn Within dirs dir
first_at Within [] i dir other below none is within = absurd (omega (arith, below))
first_at Within (first ∷ rest) zero dir other below none is within = inl (subst Within is within, is)
first_at Within (first ∷ rest) (suc i) dir other below none is within =
    inr (none 0 (omega arith), first_at Within rest i dir other (omega (arith, below)) (λ k less. none (suc k) (omega (arith, less))) is within)

straight_within : (Within : Dir → Type 0) (next : Option Dir) (dir : Dir) → CanGoStraight Within next → next ≡ Some dir → Within dir
straight_within Within None dir can same = absurd can
straight_within Within (Some ahead) dir can same = let e : ahead ≡ dir = cc in subst Within e can.1

pub picked_within : (Within : Dir → Type 0) (next : Option Dir) (dir : Dir) → IsPicked Within next dir → Within dir
picked_within Within next dir (inl straight) = straight_within Within next dir straight.0 straight.1
picked_within Within next dir (inr other) = first_within Within preference dir other.1

pub chosen_push : (passes : Cell → Bool) (start end cell before : Cell) (next : Option Dir) (dir : Dir) (back : List Dir)
    → ((rest : List Dir) → IsChosenBack passes start next rest cell → IsChosenBack passes start None (back ++ rest) end)
    → start ≢ cell → IsPicked (Enters passes start cell) next dir → Leads dir before cell
    → (rest : List Dir) → IsChosenBack passes start (Some dir) rest before → IsChosenBack passes start None ((back ++ dir ∷ []) ++ rest) end
chosen_push passes start end cell before next dir back so_far away picked leads rest chosen =
    let P = λ (dirs : List Dir). IsChosenBack passes start None dirs end in
    subst P (sym (append_assoc back (dir ∷ []) rest)) (so_far (dir ∷ rest) (away, (picked, (before, (leads, chosen)))))

pub turned : (dir : Dir) (dirs : List Dir) → reverse dirs ++ dir ∷ [] ≡ reverse (dir ∷ dirs)
turned dir dirs = sym (reverse-append (dir ∷ []) dirs)

chosen_back_walk : (passes : Cell → Bool) (start : Cell) (back : List Dir) (next : Option Dir) (cell : Cell) → IsChosenBack passes start next back cell → IsWalk passes start (reverse back) cell
chosen_back_walk passes start [] next cell chosen = chosen
chosen_back_walk passes start (dir ∷ dirs) next cell chosen =
    let enters = picked_within (Enters passes start cell) next dir chosen.1.0 in
    let after = chosen.1.1 in
    let same : enters.before ≡ after.0 = leads_from_same dir enters.before after.0 cell enters.step.leads after.1.0 in
    let P = λ (c : Cell). Step passes dir c cell in
    let Q = λ (walk : List Dir). IsWalk passes start walk cell in
    subst Q (turned dir dirs) (IsWalk-push passes (reverse dirs) start after.0 cell dir (chosen_back_walk passes start dirs (Some dir) after.0 after.1.1) (subst P same enters.step))

chosen_back_cost : (passes : Cell → Bool) (start : Cell) (back : List Dir) (next : Option Dir) (cell : Cell) (cost : ℕ) → IsChosenBack passes start next back cell → IsDistance passes start cell cost → walk_cost (reverse back) ≡ cost
chosen_back_cost passes start [] next cell cost chosen distance = let least = distance.least [] chosen in omega arith
chosen_back_cost passes start (dir ∷ dirs) next cell cost chosen distance =
    let enters = picked_within (Enters passes start cell) next dir chosen.1.0 in
    let after = chosen.1.1 in
    let same : enters.before ≡ after.0 = leads_from_same dir enters.before after.0 cell enters.step.leads after.1.0 in
    let P = λ (c : Cell). IsDistance passes start c enters.cost in
    let rest : walk_cost (reverse dirs) ≡ enters.cost = chosen_back_cost passes start dirs (Some dir) after.0 enters.cost after.1.1 (subst P same enters.near) in
    let all : cost ≡ enters.cost + step_cost dir = IsDistance-unique passes start cell cost (enters.cost + step_cost dir) distance enters.far in
    let sums : walk_cost (reverse dirs ++ dir ∷ []) ≡ walk_cost (reverse dirs) + step_cost dir = walk_cost-push (reverse dirs) dir in
    ap walk_cost (sym (turned dir dirs)) ∙ omega arith

pub chosen_turned : (passes : Cell → Bool) (start end : Cell) (back dirs : List Dir) → dirs ≡ reverse back → IsChosenBack passes start None back end → IsChosen passes start dirs end
chosen_turned passes start end back dirs is chosen =
    let P = λ (walk : List Dir). IsChosenBack passes start None walk end in
    let whole : back ≡ reverse dirs = sym (ap reverse is ∙ reverse-reverse back) in
    subst P whole chosen

pub chosen_walk : (passes : Cell → Bool) (start end : Cell) (dirs : List Dir) → IsChosen passes start dirs end → IsWalk passes start dirs end
chosen_walk passes start end dirs chosen =
    let P = λ (walk : List Dir). IsWalk passes start walk end in
    subst P (reverse-reverse dirs) (chosen_back_walk passes start (reverse dirs) None end chosen)

pub chosen_cost : (passes : Cell → Bool) (start end : Cell) (dirs : List Dir) (cost : ℕ) → IsChosen passes start dirs end → IsDistance passes start end cost → walk_cost dirs ≡ cost
chosen_cost passes start end dirs cost chosen distance =
    ap walk_cost (sym (reverse-reverse dirs)) ∙ chosen_back_cost passes start (reverse dirs) None end cost chosen distance

-- cells of a map lie in the largest map
pub in_grid : (size : Size) (cell : Cell) → IsInside size cell → IsInGrid cell
in_grid size cell inside =
    let wide = size.wide in let high = size.high in
    (omega (arith, inside.column, wide.few), omega (arith, inside.row, high.few))

-- the walk stays in the largest map
pub stays_in_grid : (passes : Cell → Bool) (size : Size) → ((cell : Cell) → IsTrue (passes cell) → IsInside size cell) → (dirs : List Dir) (from to : Cell) → IsTrue (passes from) → IsWalk passes from dirs to → StaysInGrid from dirs
stays_in_grid passes size within [] from to passing walk = in_grid size from (within from passing)
stays_in_grid passes size within (dir ∷ dirs) from to passing walk =
    let step = walk.1.0 in
    (in_grid size from (within from passing), (walk.0, (step.leads, stays_in_grid passes size within dirs walk.0 to step.next walk.1.1)))

pub can_reach : (passes : Cell → Bool) (start : Cell) (hit : Cell → Bool) (size : Size) (costs : List ℕ) → ((cell : Cell) → IsTrue (passes cell) → IsInside size cell) → HasDistances passes start size costs
    → IsTrue (passes start) → CanReach passes start hit → (cell : Cell) × (IsTrue (hit cell) × IsReachedCell size costs cell)
can_reach passes start hit size costs within exact passing reach =
    let target = reach.0 in
    let walk = reach.1.1 in
    let inside = within target (IsWalk-passes passes walk.0 start target passing walk.1) in
    (target, (reach.1.0, record { inside = inside; walked = exact.reached target walk.0 inside walk.1 }))

-- the answer

pub answered : (passes : Cell → Bool) (start : Cell) (hit : Cell → Bool) (size : Size) (costs : List ℕ) (end : Cell) (cost : ℕ) (dirs : List Dir) (points : List Cell)
    → ((cell : Cell) → IsTrue (passes cell) → IsInside size cell) → HasDistances passes start size costs → IsTrue (passes start)
    → IsNearestCell size costs hit end → cost ≡ entry size costs end → IsChosen passes start dirs end → points ≡ waypoints start dirs
    → IsAnswer passes start hit end cost points
answered passes start hit size costs end cost dirs points within exact passing near is chosen turns =
    let distance = exact.distance end near.reached.inside near.reached.walked in
    record {
      is_hit = near.is_hit;
      walk = (dirs, (chosen, (chosen_cost passes start end dirs (entry size costs end) chosen distance ∙ sym is, turns)));
      nearest = λ target others target_hit walk.
          (let inside = within target (IsWalk-passes passes others start target passing walk) in
          let there = exact.distance target inside (exact.reached target others inside walk) in
          omega (arith, near.nearest target inside target_hit, there.least others walk));
      first = λ target target_hit there.
          (let walk = there.walk in
          let inside = within target (IsWalk-passes passes walk.0 start target passing walk.1.0) in
          let same = IsDistance-unique passes start target cost (entry size costs target) there (exact.distance target inside (exact.reached target walk.0 inside walk.1.0)) in
          near.first target inside target_hit (sym same ∙ is));
    }
