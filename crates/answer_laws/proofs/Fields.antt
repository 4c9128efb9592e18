-- The step that a flow field has at a start, and its summary.
use Rattle.std.proofs.Common.{ℕ, ◌≡◌, ◌+◌, ◌≤◌, ◌⊎◌, Bool, Option, Some, None, List, [], ◌∷◌, length, get_or, sum_by, IsTrue, refl, inl, inr, sym, subst, arith}
use Rattle.std.specs.List.{Contains}
use Rattle.std.proofs.lemmas.Bool.{cases_lt}
use Rattle.std.proofs.lemmas.List.Elements.{Contains-get_or}
use Rattle.std.proofs.lemmas.List.Sums.{sum_by-cons}
use Rattle.nav_types.specs.declared.cells.Cell.{Cell}
use Rattle.nav_types.specs.declared.directions.Dir.{Dir}
use Rattle.nav_types.specs.Directions.{step_cost}
use Rattle.nav_types.specs.Walks.{Step, IsWalk, walk_cost, CanReach}
use Rattle.nav_types.proofs.Items.{Contains-head, Contains-tail, Contains-cons_cases, Contains-none, Contains-map, same_pair}
use Rattle.nav_types.proofs.Walking.{Joined-passes}
use Rattle.posts.specs.declared.notes.FlowSummary.{FlowSummary}
use Rattle.walks.proofs.Tracing.{chosen_walk}
use Rattle.flow_field.specs.Flows.{LeadsToTarget, IsNearest, IsFar, Descends, IsNext, HasSummary}
use Rattle.flow_field.proofs.Reading.{IsNearest-unique}
use Rattle.answer_laws.proofs.Deciding.{Decided, decided_as, decided_some, some_in, BestIn, best_in}
use Rattle.answer_laws.proofs.Distances.{HasAll, decided_joined, decided_same_cell, decided_same_number, decided_step}
use Rattle.answer_laws.proofs.Listing.{once_each}
use Rattle.answer_laws.proofs.Choosing.{Found, found, first_by_preference}
use Rattle.answer_laws.proofs.Tallying.{decided_same_pair}

nearest_of : (passes hit : Cell → Bool) (cell : Cell) → Found passes cell hit → (cost : ℕ) × IsNearest passes hit cell cost
nearest_of passes hit cell made =
    let walk = made.answer.walk in (
      made.cost,
      record {
        walk = (
          walk.0,
          record {
            target = made.end;
            is_hit = made.answer.is_hit;
            walk = chosen_walk passes cell made.end walk.0 walk.1.0;
            costs = walk.1.1.0;
          },
        );
        least = made.answer.nearest;
      },
    )

-- the first step of a nearest walk descends
descends_by : (passes hit : Cell → Bool) (cell : Cell) (cost : ℕ) (dirs : List Dir) → LeadsToTarget passes hit cell dirs cost
    → ((target : Cell) (others : List Dir) → IsTrue (hit target) → IsWalk passes cell others target → cost ≤ walk_cost others)
    → (cost ≡ 0 → ⊥) → (dir : Dir) × Descends passes hit cell dir
descends_by passes hit cell cost [] way least some = absurd (some (sym way.costs))
descends_by passes hit cell cost (dir ∷ dirs) way least some =
    let next = way.walk.0 in
    let step = way.walk.1.0 in
    let rest : ℕ = walk_cost dirs in
    let total : cost ≡ rest + step_cost dir = omega (arith, way.costs, sum_by-cons step_cost dir dirs) in
    let far : IsNearest passes hit next rest = record {
      walk = (dirs, record { target = way.target; is_hit = way.is_hit; walk = way.walk.1.1; costs = refl });
      least = λ target others target_hit walk.
          omega (arith, least target (dir ∷ others) target_hit (next, (step, walk)), sum_by-cons step_cost dir others, total);
    } in
    let here : IsNearest passes hit cell (rest + step_cost dir) = record {
      walk = (dir ∷ dirs, record { target = way.target; is_hit = way.is_hit; walk = way.walk; costs = omega (arith, way.costs, total) });
      least = λ target others target_hit walk. omega (arith, least target others target_hit walk, total);
    } in
    (dir, record { next = next; step = step; cost = rest; far = far; here = here })

decided_in : {A : Type 0} → ((a b : A) → Decided (a ≡ b)) → (list : List A) (a : A) → Decided (Contains list a)
decided_in same list a = elim (some_in (λ b. a ≡ b) (same a) list) [
  | inl found ↦ inl (subst (Contains list) (sym found.1.1) found.1.0)
  | inr none ↦ inr (λ inside. none a inside refl)
]

module _ (passes hit : Cell → Bool) (cells : List Cell) (whole : HasAll passes cells) where
  nearest : (cell : Cell) → IsTrue (passes cell)
      → ((cost : ℕ) × IsNearest passes hit cell cost) ⊎ ((cost : ℕ) → IsNearest passes hit cell cost → ⊥)
  nearest cell passing = elim (found passes cells whole cell passing hit) [
    | inl made ↦ inl (nearest_of passes hit cell made)
    | inr none ↦ inr (λ cost near. let way = near.walk.1 in none (way.target, (way.is_hit, (near.walk.0, way.walk))))
  ]

  -- the step descends to the next cell
  abbrev DescendsTo : Cell → Dir → Cell → Type 0
  DescendsTo cell dir next = Step passes dir cell next
      × ((cost : ℕ) × (IsNearest passes hit next cost × IsNearest passes hit cell (cost + step_cost dir)))

  descends_to : (cell : Cell) (cost : ℕ) → IsNearest passes hit cell cost → (dir : Dir) (next : Cell) → Decided (DescendsTo cell dir next)
  descends_to cell cost here dir next = elim (decided_step passes dir cell next) [
    | inr no_step ↦ inr (λ is. no_step is.0)
    | inl step ↦ elim (nearest next step.next) [
      | inr none ↦ inr (λ is. none is.1.0 is.1.1.0)
      | inl far ↦ elim (decided_same_number cost (far.0 + step_cost dir)) [
        | inl same ↦ inl (step, (far.0, (far.1, subst (λ (c : ℕ). IsNearest passes hit cell c) same here)))
        | inr other ↦ inr (λ is. other
            (let one : is.1.0 ≡ far.0 = IsNearest-unique passes hit next is.1.0 far.0 is.1.1.0 far.1 in
            let two : cost ≡ is.1.0 + step_cost dir =
            IsNearest-unique passes hit cell cost (is.1.0 + step_cost dir) here is.1.1.1 in
            omega (arith, one, two)))
      ]
    ]
  ]

  decided_descends : (cell : Cell) (cost : ℕ) → IsNearest passes hit cell cost → (dir : Dir) → Decided (Descends passes hit cell dir)
  decided_descends cell cost here dir = decided_as {P = (next : Cell) × DescendsTo cell dir next}
      (λ to. record { next = to.0; step = to.1.0; cost = to.1.1.0; far = to.1.1.1.0; here = to.1.1.1.1 })
      (λ descends. (descends.next, (descends.step, (descends.cost, (descends.far, descends.here)))))
      (decided_some (DescendsTo cell dir) (descends_to cell cost here dir) cells (λ next to. whole next to.0.next))

  -- the step to take at a start from which a target can be reached
  pub next_step : (start : Cell) → IsTrue (passes start) → CanReach passes start hit
      → (next : Option Dir) × IsNext passes hit start start next
  next_step start passing reach = elim (found passes cells whole start passing hit) [
    | inr none ↦ absurd (none reach)
    | inl made ↦
        let here = nearest_of passes hit start made in
        elim (decided_same_number here.0 0) [
          | inl none ↦ (None, inr (subst (λ (c : ℕ). IsNearest passes hit start c) none here.1))
          | inr some ↦
              let first = first_by_preference (Descends passes hit start) (decided_descends start here.0 here.1)
              (descends_by passes hit start here.0 here.1.walk.0 here.1.walk.1 here.1.least some) in
              (Some first.0, (([], refl), first.1))
        ]
  ]

  -- ---- the summary

  -- a cell of the start's area with the cost from it to the nearest target
  abbrev IsFarOf : Cell → Cell × ℕ → Type 0
  IsFarOf start far = IsFar passes hit start far.0 (Some far.1)

  -- a list of these for cells of a list
  record Fars (start : Cell) (some : List Cell) : Type 0 where
    list : List (Cell × ℕ)
    each : (far : Cell × ℕ) → Contains list far → IsFarOf start far
    all : (far : Cell × ℕ) → IsFarOf start far → Contains some far.0 → Contains list far

  far_at : (start : Cell) → IsTrue (passes start) → (cell : Cell)
      → ((cost : ℕ) × IsFarOf start (cell, cost)) ⊎ ((cost : ℕ) → IsFarOf start (cell, cost) → ⊥)
  far_at start passing cell = elim (decided_joined passes cells whole start cell) [
    | inr apart ↦ inr (λ cost far. apart far.0)
    | inl joined ↦ elim (nearest cell (Joined-passes passes start cell passing joined)) [
      | inl near ↦ inl (near.0, (joined, near.1))
      | inr none ↦ inr (λ cost far. none cost far.1)
    ]
  ]

  fars : (start : Cell) → IsTrue (passes start) → (some : List Cell) → Fars start some
  fars start passing [] = record {
    list = [];
    each = λ far inside. absurd (Contains-none far inside);
    all = λ far is inside. absurd (Contains-none far.0 inside);
  }
  fars start passing (cell ∷ some) =
      let rest = fars start passing some in
      elim (far_at start passing cell) [
        | inl here ↦
            let pair : Cell × ℕ = (cell, here.0) in
            record {
              list = pair ∷ rest.list;
              each = λ far inside. elim (Contains-cons_cases pair rest.list far inside) [
                | inl same ↦ subst (IsFarOf start) same here.1
                | inr later ↦ rest.each far later
              ];
              all = λ far is inside. elim (Contains-cons_cases cell some far.0 inside) [
                | inl same ↦
                    let moved : IsFarOf start (far.0, here.0) = subst (λ (c : Cell). IsFarOf start (c, here.0)) same here.1 in
                    let one : pair ≡ far =
                    same_pair pair far same (IsNearest-unique passes hit far.0 here.0 far.1 moved.1 is.1) in
                    subst (Contains (pair ∷ rest.list)) one (Contains-head pair rest.list)
                | inr later ↦ Contains-tail pair rest.list far (rest.all far is later)
              ];
            }
        | inr none ↦ record {
          list = rest.list;
          each = rest.each;
          all = λ far is inside. elim (Contains-cons_cases cell some far.0 inside) [
            | inl same ↦ absurd (none far.1 (subst (λ (c : Cell). IsFarOf start (c, far.1)) (sym same) is))
            | inr later ↦ rest.all far is later
          ];
        }
      ]

  pub summary : (start : Cell) → IsTrue (passes start) → CanReach passes start hit
      → (summary : FlowSummary) × HasSummary passes hit start summary
  summary start passing reach =
      let all = fars start passing cells in
      let same : (a b : Cell × ℕ) → Decided (a ≡ b) = decided_same_pair decided_same_cell decided_same_number in
      let once = once_each same all.list in
      let list : List (Cell × ℕ) = once.list in
      let NoLess : Cell × ℕ → Cell × ℕ → Type 0 = λ a b. b.1 ≤ a.1 in
      let best : BestIn (Contains list) NoLess list = best_in (Contains list) NoLess (decided_in same list)
      (λ a b. elim (cases_lt a.1 b.1) [ inl less ↦ inr (omega (arith, less)) | inr more ↦ inl more ])
      (λ a b c one two. omega (arith, one, two)) list in
      elim best [
        | inr none ↦ elim (found passes cells whole start passing hit) [
          | inr apart ↦ absurd (apart reach)
          | inl made ↦
              let here = nearest_of passes hit start made in
              let own : Contains list (start, here.0) =
              once.there (start, here.0) (all.all (start, here.0) (([], refl), here.1) (whole start passing)) in
              absurd (none (start, here.0) own own)
        ]
        | inl most ↦ (
          record { cells = length list; farthest = most.0.1; sum = sum_by (λ (far : Cell × ℕ). far.1) list },
          record {
            fars = list;
            lists = record {
              each = λ far inside. all.each far (once.back far inside);
              all = λ far is. once.there far (all.all far is (whole far.0 (Joined-passes passes start far.0 passing is.0)));
              once = once.once;
            };
            cells = refl;
            most = λ k d low. most.1.1 (get_or list k d) (Contains-get_or list k d low) (Contains-get_or list k d low);
            reached = Contains-map (λ (far : Cell × ℕ). far.1) list most.0 most.1.0;
            sum = refl;
          },
        )
      ]
