-- The distance of two cells, where a list has all passable cells.
use Rattle.std.proofs.Common.{ℕ, ◌≡◌, ◌+◌, ◌<◌, ◌≤◌, ◌⊎◌, Bool, List, [], ◌∷◌, ◌++◌, IsTrue, refl, inl, inr, ap, arith}
use Rattle.std.specs.List.{Contains}
use Rattle.std.proofs.lemmas.Bool.{cases_eq, cases_lt}
use Rattle.std.proofs.lemmas.List.Sums.{sum_by-cons, sum_by-append}
use Rattle.nav_types.specs.declared.cells.Cell.{Cell}
use Rattle.nav_types.specs.declared.directions.Dir.{Dir}
use Rattle.nav_types.specs.declared.directions.Dir.TheVariants.{N, E, S, W, NE, SE, SW, NW}
use Rattle.nav_types.specs.Cells.{cell_at}
use Rattle.nav_types.specs.Directions.{east, west, north, south, step_cost, Leads}
use Rattle.nav_types.specs.Walks.{Step, IsWalk, walk_cost, Joined, IsDistance}
use Rattle.nav_types.proofs.CellOrder.{same_cell}
use Rattle.nav_types.proofs.Walking.{IsWalk-append}
use Rattle.answer_laws.proofs.Deciding.{Decided, decided_test, decided_both, decided_as, BestIn, best_in, LeastNumber}
use Rattle.answer_laws.proofs.Paths.{IsVia, least_via, via_holds, via_of_short, ViaUpTo, put_together}

-- ---- cells and directions

pub decided_same_number : (a b : ℕ) → Decided (a ≡ b)
decided_same_number a b = cases_eq a b

pub decided_less : (a b : ℕ) → Decided (a < b)
decided_less a b = elim (cases_lt a b) [ inl less ↦ inl less | inr more ↦ inr (λ less. omega (arith, less, more)) ]

pub decided_same_cell : (a b : Cell) → Decided (a ≡ b)
decided_same_cell a b = decided_as {P = (a.i ≡ b.i) × (a.j ≡ b.j)} (λ both. same_cell a b both.0 both.1)
    (λ same. (ap (λ (cell : Cell). cell.i) same, ap (λ (cell : Cell). cell.j) same))
    (decided_both (cases_eq a.i b.i) (cases_eq a.j b.j))

abbrev pub all_dirs : List Dir
all_dirs = N ∷ E ∷ S ∷ W ∷ NE ∷ SE ∷ SW ∷ NW ∷ []

pub in_all_dirs : (dir : Dir) → Contains all_dirs dir
in_all_dirs N = (0, omega arith, refl)
in_all_dirs E = (1, omega arith, refl)
in_all_dirs S = (2, omega arith, refl)
in_all_dirs W = (3, omega arith, refl)
in_all_dirs NE = (4, omega arith, refl)
in_all_dirs SE = (5, omega arith, refl)
in_all_dirs SW = (6, omega arith, refl)
in_all_dirs NW = (7, omega arith, refl)

pub decided_leads : (dir : Dir) (a b : Cell) → Decided (Leads dir a b)
decided_leads dir a b = decided_as {P = (b.i + west dir ≡ a.i + east dir) × (b.j + south dir ≡ a.j + north dir)}
    (λ both. record { columns = both.0; rows = both.1 }) (λ leads. (leads.columns, leads.rows))
    (decided_both (cases_eq (b.i + west dir) (a.i + east dir)) (cases_eq (b.j + south dir) (a.j + north dir)))

pub decided_step : (passes : Cell → Bool) (dir : Dir) (a b : Cell) → Decided (Step passes dir a b)
decided_step passes dir a b = decided_as
    {P = Leads dir a b × (IsTrue (passes a) × (IsTrue (passes b) × (IsTrue (passes (cell_at b.i a.j)) × IsTrue (passes (cell_at a.i b.j)))))}
    (λ all. record { leads = all.0; start = all.1.0; next = all.1.1.0; side = all.1.1.1.0; ahead = all.1.1.1.1 })
    (λ step. (step.leads, (step.start, (step.next, (step.side, step.ahead)))))
    (decided_both (decided_leads dir a b) (decided_both (decided_test (passes a)) (decided_both (decided_test (passes b))
    (decided_both (decided_test (passes (cell_at b.i a.j))) (decided_test (passes (cell_at a.i b.j)))))))

-- ---- walks

-- the cost of a step
abbrev pub IsStepCost : (Cell → Bool) → Cell → Cell → ℕ → Type 0
IsStepCost passes a b c = (dir : Dir) × (Step passes dir a b × (c ≡ step_cost dir))

least_step : (passes : Cell → Bool) (a b : Cell) → LeastNumber (IsStepCost passes a b)
least_step passes a b =
    let best : BestIn (λ dir. Step passes dir a b) (λ d e. step_cost d ≤ step_cost e) all_dirs =
    best_in (λ dir. Step passes dir a b) (λ d e. step_cost d ≤ step_cost e) (λ dir. decided_step passes dir a b)
    (λ d e. elim (cases_lt (step_cost d) (step_cost e)) [ inl less ↦ inl (omega (arith, less)) | inr more ↦ inr more ])
    (λ d e f one two. omega (arith, one, two)) all_dirs in
    elim best [
      | inl found ↦ inl (
        step_cost found.0,
        (
          (found.0, (found.1.0, refl)),
          λ d by. omega (arith, found.1.1 by.0 (in_all_dirs by.0) by.1.0, by.1.1),
        ),
      )
      | inr none ↦ inr (λ d by. none by.0 (in_all_dirs by.0) by.1.0)
    ]

-- a walk of exactly this cost
abbrev WalkOf : (Cell → Bool) → Cell → Cell → ℕ → Type 0
WalkOf passes a b c = (dirs : List Dir) × (IsWalk passes a dirs b × (walk_cost dirs ≡ c))

walk_of_via : (passes : Cell → Bool) (cells : List Cell) (a b : Cell) (c : ℕ) → IsVia (IsStepCost passes) cells a b c → WalkOf passes a b c
walk_of_via passes =
    via_holds (IsStepCost passes) (WalkOf passes) (λ a. ([], (refl, refl)))
    (λ a b c by. (by.0 ∷ [], ((b, (by.1.0, refl)), omega (arith, by.1.1))))
    (λ a x b p q one two. (
      one.0 ++ two.0,
      (
        IsWalk-append passes a x b one.0 two.0 one.1.0 two.1.0,
        omega (arith, sum_by-append step_cost one.0 two.0, one.1.1, two.1.1),
      ),
    ))

-- the list has all passable cells
abbrev pub HasAll : (Cell → Bool) → List Cell → Type 0
HasAll passes cells = (cell : Cell) → IsTrue (passes cell) → Contains cells cell

via_of_walk : (passes : Cell → Bool) (cells : List Cell) → HasAll passes cells → (dirs : List Dir) (a b : Cell) → IsWalk passes a dirs b
    → ViaUpTo (IsStepCost passes) cells a b (walk_cost dirs)
via_of_walk passes cells whole [] a b walk =
    (0, (via_of_short (IsStepCost passes) cells a b 0 (inl (walk, refl)), omega arith))
via_of_walk passes cells whole (dir ∷ dirs) a b walk =
    let next = walk.0 in
    let rest = via_of_walk passes cells whole dirs next b walk.1.1 in
    let first = via_of_short (IsStepCost passes) cells a next (step_cost dir) (inr (dir, (walk.1.0, refl))) in
    let both = put_together (IsStepCost passes) cells next (whole next walk.1.0.next) a b (step_cost dir) rest.0 first rest.1.0 in
    (both.0, (both.1.0, omega (arith, both.1.1, rest.1.1, sum_by-cons step_cost dir dirs)))

-- the distance of two cells, or no walk joins them
abbrev pub Distance : (Cell → Bool) → Cell → Cell → Type 0
Distance passes a b = ((c : ℕ) × IsDistance passes a b c) ⊎ (Joined passes a b → ⊥)

pub distance : (passes : Cell → Bool) (cells : List Cell) → HasAll passes cells → (a b : Cell) → Distance passes a b
distance passes cells whole a b = elim (least_via (IsStepCost passes) decided_same_cell (least_step passes) cells a b) [
  | inl found ↦ inl (
    found.0,
    record {
      walk = walk_of_via passes cells a b found.0 found.1.0;
      least = λ dirs walk.
          let via = via_of_walk passes cells whole dirs a b walk in omega (arith, found.1.1 via.0 via.1.0, via.1.1);
    },
  )
  | inr none ↦ inr (λ joined. let via = via_of_walk passes cells whole joined.0 a b joined.1 in none via.0 via.1.0)
]

pub decided_joined : (passes : Cell → Bool) (cells : List Cell) → HasAll passes cells → (a b : Cell) → Decided (Joined passes a b)
decided_joined passes cells whole a b = elim (distance passes cells whole a b) [
  | inl found ↦ inl (found.1.walk.0, found.1.walk.1.0)
  | inr none ↦ inr none
]
