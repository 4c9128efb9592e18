-- The cell of least rank, the chosen walk into a cell, and the answer of a search.
use Rattle.std.proofs.Common.{ℕ, zero, suc, ◌≡◌, ◌+◌, ◌<◌, ◌≤◌, ◌⊎◌, Bool, Option, Some, None, List, [], ◌∷◌, IsTrue, reverse, refl, inl, inr, sym, subst, ◌∙◌, arith}
use Rattle.std.specs.List.{Contains}
use Rattle.std.proofs.lemmas.Bool.{cases_order}
use Rattle.nav_types.specs.declared.cells.Cell.{Cell}
use Rattle.nav_types.specs.declared.directions.Dir.{Dir}
use Rattle.nav_types.specs.Cells.{IsNotAfter}
use Rattle.nav_types.specs.Directions.{is_straight, step_cost}
use Rattle.nav_types.specs.Walks.{Step, walk_cost, Joined, CanReach, IsDistance}
use Rattle.nav_types.proofs.CellOrder.{IsNotAfter-trans}
use Rattle.nav_types.proofs.Items.{Contains-cons_cases, Contains-none}
use Rattle.nav_types.proofs.Walking.{step_cost_some, Joined-passes, IsDistance-unique}
use Rattle.goal_reach.specs.Choices.{IsLeastBy}
use Rattle.walks.specs.Chosen.{Enters, preference, IsFirstIn, IsPicked, IsChosenBack, IsChosen, IsAnswer}
use Rattle.walks.specs.Waypoints.{waypoints}
use Rattle.walks.proofs.Walking.{some_enters}
use Rattle.walks.proofs.Tracing.{picked_within, chosen_turned, chosen_cost}
use Rattle.answer_laws.proofs.Deciding.{Decided, decided_test, decided_both, decided_as, decided_some, BestIn, best_in}
use Rattle.answer_laws.proofs.Distances.{HasAll, Distance, distance, decided_joined, decided_same_cell, decided_same_number, decided_step, in_all_dirs}

-- ---- the cell of least rank

-- the cell of least rank in a set of cells
abbrev pub HasLeast : (Cell → ℕ) → (Cell → Type 0) → Type 0
HasLeast rank Within = (cell : Cell) × IsLeastBy rank Within cell

-- less in rank, or of the same rank and not after
abbrev NoLater : (Cell → ℕ) → Cell → Cell → Type 0
NoLater rank a b = (rank a < rank b) ⊎ ((rank a ≡ rank b) × IsNotAfter a b)

not_after_total : (a b : Cell) → IsNotAfter a b ⊎ IsNotAfter b a
not_after_total a b = elim (cases_order a.j b.j) [
  | inl row ↦ elim (cases_order a.i b.i) [
    | inl column ↦ inl (inr (row, omega (arith, column)))
    | inr other ↦ elim other [ inl less ↦ inl (inr (row, omega (arith, less))) | inr more ↦ inr (inr (sym row, omega (arith, more))) ]
  ]
  | inr other ↦ elim other [ inl less ↦ inl (inl less) | inr more ↦ inr (inl more) ]
]

no_later_total : (rank : Cell → ℕ) (a b : Cell) → NoLater rank a b ⊎ NoLater rank b a
no_later_total rank a b = elim (cases_order (rank a) (rank b)) [
  | inl same ↦ elim (not_after_total a b) [ inl one ↦ inl (inr (same, one)) | inr other ↦ inr (inr (sym same, other)) ]
  | inr other ↦ elim other [ inl less ↦ inl (inl less) | inr more ↦ inr (inl more) ]
]

no_later_on : (rank : Cell → ℕ) (a b c : Cell) → NoLater rank a b → NoLater rank b c → NoLater rank a c
no_later_on rank a b c (inl one) (inl two) = inl (omega (arith, one, two))
no_later_on rank a b c (inl one) (inr two) = inl (omega (arith, one, two.0))
no_later_on rank a b c (inr one) (inl two) = inl (omega (arith, one.0, two))
no_later_on rank a b c (inr one) (inr two) = inr (one.0 ∙ two.0, IsNotAfter-trans a b c one.1 two.1)

no_later_least : (rank : Cell → ℕ) (a b : Cell) → NoLater rank a b → rank a ≤ rank b
no_later_least rank a b (inl less) = omega (arith, less)
no_later_least rank a b (inr same) = omega (arith, same.0)

no_later_first : (rank : Cell → ℕ) (a b : Cell) → NoLater rank a b → rank b ≡ rank a → IsNotAfter a b
no_later_first rank a b (inl less) e = absurd (omega (arith, less, e))
no_later_first rank a b (inr same) e = same.1

pub least_by : (rank : Cell → ℕ) (Within : Cell → Type 0) → ((cell : Cell) → Decided (Within cell)) → (cells : List Cell)
    → ((cell : Cell) → Within cell → Contains cells cell) → HasLeast rank Within ⊎ ((cell : Cell) → Within cell → ⊥)
least_by rank Within decide cells all =
    let best : BestIn Within (NoLater rank) cells =
    best_in Within (NoLater rank) decide (no_later_total rank) (no_later_on rank) cells in
    elim best [
      | inl found ↦ inl (
        found.0,
        record {
          within = found.1.0;
          least = λ other inside. no_later_least rank found.0 other (found.1.1 other (all other inside) inside);
          first = λ other inside same. no_later_first rank found.0 other (found.1.1 other (all other inside) inside) same;
        },
      )
      | inr none ↦ inr (λ cell inside. none cell (all cell inside) inside)
    ]

-- ---- the picked direction

pub first_in : (Within : Dir → Type 0) → ((dir : Dir) → Decided (Within dir)) → (dirs : List Dir)
    → ((dir : Dir) × IsFirstIn Within dirs dir) ⊎ ((dir : Dir) → Contains dirs dir → Within dir → ⊥)
first_in Within decide [] = inr (λ dir inside. absurd (Contains-none dir inside))
first_in Within decide (first ∷ rest) = elim (decide first) [
  | inl here ↦ inl (first, inl (here, refl))
  | inr not_here ↦ elim (first_in Within decide rest) [
    | inl found ↦ inl (found.0, inr (not_here, found.1))
    | inr none ↦ inr (λ dir inside is. elim (Contains-cons_cases first rest dir inside) [
      | inl same ↦ not_here (subst Within (sym same) is)
      | inr later ↦ none dir later is
    ])
  ]
]

pub first_by_preference : (Within : Dir → Type 0) → ((dir : Dir) → Decided (Within dir)) → (dir : Dir) × Within dir
    → (dir : Dir) × IsFirstIn Within preference dir
first_by_preference Within decide some = elim (first_in Within decide preference) [
  | inl found ↦ found
  | inr none ↦ absurd (none some.0 (in_all_dirs some.0) some.1)
]

picked : (Within : Dir → Type 0) → ((dir : Dir) → Decided (Within dir)) → (dir : Dir) × Within dir → (next : Option Dir)
    → (dir : Dir) × IsPicked Within next dir
picked Within decide some None =
    let first = first_by_preference Within decide some in (first.0, inr (λ can. can, first.1))
picked Within decide some (Some next) = elim (decided_both (decided_test (is_straight next)) (decide next)) [
  | inl can ↦ (next, inl (can, refl))
  | inr can_not ↦ let first = first_by_preference Within decide some in (first.0, inr (can_not, first.1))
]

-- ---- the chosen walk into a cell

module _ (passes : Cell → Bool) (cells : List Cell) (whole : HasAll passes cells) (start : Cell) where
  -- the step from the cell before enters the cell at the end of a walk of least cost
  abbrev EntersFrom : Cell → Dir → Cell → Type 0
  EntersFrom cell dir before = Step passes dir before cell
      × ((near : ℕ) × (IsDistance passes start before near × IsDistance passes start cell (near + step_cost dir)))

  enters_from : (cell : Cell) (cost : ℕ) → IsDistance passes start cell cost → (dir : Dir) (before : Cell) → Decided (EntersFrom cell dir before)
  enters_from cell cost there dir before = elim (decided_step passes dir before cell) [
    | inr no_step ↦ inr (λ enters. no_step enters.0)
    | inl step ↦ elim (distance passes cells whole start before) [
      | inr apart ↦ inr (λ enters. apart (enters.1.1.0.walk.0, enters.1.1.0.walk.1.0))
      | inl near ↦ elim (decided_same_number cost (near.0 + step_cost dir)) [
        | inl same ↦ inl (step, (near.0, (near.1, subst (λ (c : ℕ). IsDistance passes start cell c) same there)))
        | inr other ↦ inr (λ enters. other
            (let one : enters.1.0 ≡ near.0 = IsDistance-unique passes start before enters.1.0 near.0 enters.1.1.0 near.1 in
            let two : cost ≡ enters.1.0 + step_cost dir =
            IsDistance-unique passes start cell cost (enters.1.0 + step_cost dir) there enters.1.1.1 in
            omega (arith, one, two)))
      ]
    ]
  ]

  decided_enters : (cell : Cell) (cost : ℕ) → IsDistance passes start cell cost → (dir : Dir) → Decided (Enters passes start cell dir)
  decided_enters cell cost there dir = decided_as {P = (before : Cell) × EntersFrom cell dir before}
      (λ from. record { before = from.0; step = from.1.0; cost = from.1.1.0; near = from.1.1.1.0; far = from.1.1.1.1 })
      (λ enters. (enters.before, (enters.step, (enters.cost, (enters.near, enters.far)))))
      (decided_some (EntersFrom cell dir) (enters_from cell cost there dir) cells (λ before from. whole before from.0.start))

  -- the chosen steps back from a cell whose distance is below the bound
  chosen_back : (bound : ℕ) (cell : Cell) (cost : ℕ) → cost < bound → IsDistance passes start cell cost → (next : Option Dir)
      → (dirs : List Dir) × IsChosenBack passes start next dirs cell
  chosen_back zero cell cost less there next = absurd (omega (arith, less))
  chosen_back (suc bound) cell cost less there next = elim (decided_same_cell start cell) [
    | inl same ↦ ([], same)
    | inr away ↦
        let way = picked (Enters passes start cell) (decided_enters cell cost there) (some_enters passes start cell cost there away) next in
        let enters = picked_within (Enters passes start cell) next way.0 way.1 in
        let sum : cost ≡ enters.cost + step_cost way.0 =
        IsDistance-unique passes start cell cost (enters.cost + step_cost way.0) there enters.far in
        let rest = chosen_back bound enters.before enters.cost (omega (arith, less, sum, step_cost_some way.0)) enters.near (Some way.0) in
        (way.0 ∷ rest.0, (away, (way.1, (enters.before, (enters.step.leads, rest.1)))))
  ]

  -- the chosen walk to a cell that is joined to the start
  pub chosen_to : (cell : Cell) (cost : ℕ) → IsDistance passes start cell cost
      → (dirs : List Dir) × (IsChosen passes start dirs cell × (walk_cost dirs ≡ cost))
  chosen_to cell cost there =
      let back = chosen_back (suc cost) cell cost (omega arith) there None in
      let chosen = chosen_turned passes start cell back.0 (reverse back.0) refl back.1 in
      (reverse back.0, (chosen, chosen_cost passes start cell (reverse back.0) cost chosen there))

-- ---- the answer of a search

-- the distance, or 0 where no walk joins the cells
abbrev pub length_of : {passes : Cell → Bool} {a b : Cell} → Distance passes a b → ℕ
length_of {passes} {a} {b} (inl found) = found.0
length_of {passes} {a} {b} (inr none) = 0

length_of_is : (passes : Cell → Bool) (a b : Cell) (d : Distance passes a b) (c : ℕ) → IsDistance passes a b c → length_of d ≡ c
length_of_is passes a b (inl found) c there = IsDistance-unique passes a b found.0 c found.1 there
length_of_is passes a b (inr none) c there = absurd (none (there.walk.0, there.walk.1.0))

length_of_joined : (passes : Cell → Bool) (a b : Cell) (d : Distance passes a b) → Joined passes a b → IsDistance passes a b (length_of d)
length_of_joined passes a b (inl found) joined = found.1
length_of_joined passes a b (inr none) joined = absurd (none joined)

-- a search for the nearest of the cells that are hit
pub record Found (passes : Cell → Bool) (start : Cell) (hit : Cell → Bool) : Type 0 where
  pub end : Cell
  pub cost : ℕ
  pub points : List Cell
  pub answer : IsAnswer passes start hit end cost points

-- a hit cell that is joined to the start
abbrev IsTarget : (Cell → Bool) → Cell → (Cell → Bool) → Cell → Type 0
IsTarget passes start hit cell = IsTrue (hit cell) × Joined passes start cell

found_at : (passes : Cell → Bool) (cells : List Cell) (whole : HasAll passes cells) (start : Cell) (hit : Cell → Bool)
    → HasLeast (λ cell. length_of (distance passes cells whole start cell)) (IsTarget passes start hit) → Found passes start hit
found_at passes cells whole start hit best =
    let far : Cell → ℕ = λ cell. length_of (distance passes cells whole start cell) in
    let cost : ℕ = far best.0 in
    let there : IsDistance passes start best.0 cost =
    length_of_joined passes start best.0 (distance passes cells whole start best.0) best.1.within.1 in
    let walk = chosen_to passes cells whole start best.0 cost there in
    let known : (target : Cell) (c : ℕ) → IsDistance passes start target c → far target ≡ c =
    λ target c d. length_of_is passes start target (distance passes cells whole start target) c d in
    record {
      end = best.0;
      cost = cost;
      points = waypoints start walk.0;
      answer = record {
        is_hit = best.1.within.0;
        walk = (walk.0, (walk.1.0, (walk.1.1, refl)));
        nearest = λ target dirs target_hit way.
            (let joined : Joined passes start target = (dirs, way) in
            let d : IsDistance passes start target (far target) =
            length_of_joined passes start target (distance passes cells whole start target) joined in
            omega (arith, best.1.least target (target_hit, joined), d.least dirs way));
        first = λ target target_hit d.
            best.1.first target (target_hit, (d.walk.0, d.walk.1.0)) (known target cost d);
      };
    }

pub found : (passes : Cell → Bool) (cells : List Cell) → HasAll passes cells → (start : Cell) → IsTrue (passes start)
    → (hit : Cell → Bool) → Found passes start hit ⊎ (CanReach passes start hit → ⊥)
found passes cells whole start passing hit = elim
    (least_by (λ cell. length_of (distance passes cells whole start cell)) (IsTarget passes start hit)
    (λ cell. decided_both (decided_test (hit cell)) (decided_joined passes cells whole start cell)) cells
    (λ cell target. whole cell (Joined-passes passes start cell passing target.1))) [
      | inl best ↦ inl (found_at passes cells whole start hit best)
      | inr none ↦ inr (λ reach. none reach.0 (reach.1.0, reach.1.1))
    ]

pub decided_reach : (passes : Cell → Bool) (cells : List Cell) → HasAll passes cells → (start : Cell) → IsTrue (passes start)
    → (hit : Cell → Bool) → Decided (CanReach passes start hit)
decided_reach passes cells whole start passing hit =
    decided_some (λ cell. IsTrue (hit cell) × Joined passes start cell)
    (λ cell. decided_both (decided_test (hit cell)) (decided_joined passes cells whole start cell)) cells
    (λ cell target. whole cell (Joined-passes passes start cell passing target.1))
