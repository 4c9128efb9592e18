-- The way out of a rectangle in which no cell is looked for is an estimate.
use Rattle.std.proofs.Common.{ℕ, ◌≡◌, ◌+◌, ◌≤◌, ◌⊎◌, inl, inr, Bool, IsTrue, arith}
use Rattle.std.proofs.lemmas.Bool.{cases_lt}
use Rattle.nav_types.specs.declared.limits.TheConstants.{STRAIGHT_COST, DIAGONAL_COST}
use Rattle.nav_types.specs.declared.cells.Cell.{Cell}
use Rattle.nav_types.specs.declared.cells.Rect.{Rect}
use Rattle.nav_types.specs.declared.cells.Size.{Size}
use Rattle.nav_types.specs.declared.directions.Dir.{Dir}
use Rattle.nav_types.specs.declared.directions.Dir.TheVariants.{N, E, S, W, NE, SE, SW, NW}
use Rattle.nav_types.specs.Cells.{IsInside, IsInRect}
use Rattle.nav_types.specs.Directions.{Leads, step_cost}
use Rattle.nav_types.specs.Walks.{Step}
use Rattle.jump_search.specs.Estimates.{IsConsistent, IsEstimate, steps_out, cost_out}
use Rattle.jump_search.specs.JumpStates.{octile_to}
use Rattle.jump_search.proofs.Framing.{framed_none}

-- a step leads on by at most one column and one row, and costs a straight one at least
pub record IsShort (dir : Dir) (from to : Cell) : Type 0 where
  pub west : from.i ≤ to.i + 1
  pub east : to.i ≤ from.i + 1
  pub south : from.j ≤ to.j + 1
  pub north : to.j ≤ from.j + 1
  pub cost : STRAIGHT_COST ≤ step_cost dir

pub short : (dir : Dir) (from to : Cell) → Leads dir from to → IsShort dir from to
short N from to leads = let c = leads.columns in let r = leads.rows in
    record { west = omega arith; east = omega arith; south = omega arith; north = omega arith; cost = omega arith }
short E from to leads = let c = leads.columns in let r = leads.rows in
    record { west = omega arith; east = omega arith; south = omega arith; north = omega arith; cost = omega arith }
short S from to leads = let c = leads.columns in let r = leads.rows in
    record { west = omega arith; east = omega arith; south = omega arith; north = omega arith; cost = omega arith }
short W from to leads = let c = leads.columns in let r = leads.rows in
    record { west = omega arith; east = omega arith; south = omega arith; north = omega arith; cost = omega arith }
short NE from to leads = let c = leads.columns in let r = leads.rows in
    record { west = omega arith; east = omega arith; south = omega arith; north = omega arith; cost = omega arith }
short SE from to leads = let c = leads.columns in let r = leads.rows in
    record { west = omega arith; east = omega arith; south = omega arith; north = omega arith; cost = omega arith }
short SW from to leads = let c = leads.columns in let r = leads.rows in
    record { west = omega arith; east = omega arith; south = omega arith; north = omega arith; cost = omega arith }
short NW from to leads = let c = leads.columns in let r = leads.rows in
    record { west = omega arith; east = omega arith; south = omega arith; north = omega arith; cost = omega arith }

-- a step keeps to its column or to its row, or it costs a diagonal one
pub one_way : (dir : Dir) (from to : Cell) → Leads dir from to
    → ((to.i ≡ from.i) ⊎ (to.j ≡ from.j)) ⊎ (DIAGONAL_COST ≤ step_cost dir)
one_way N from to leads = let c = leads.columns in inl (inl (omega arith))
one_way S from to leads = let c = leads.columns in inl (inl (omega arith))
one_way E from to leads = let r = leads.rows in inl (inr (omega arith))
one_way W from to leads = let r = leads.rows in inl (inr (omega arith))
one_way NE from to leads = inr (omega arith)
one_way SE from to leads = inr (omega arith)
one_way SW from to leads = inr (omega arith)
one_way NW from to leads = inr (omega arith)

-- along a step the way out gets shorter by at most one
one_less : (rect : Rect) (dir : Dir) (from to : Cell) → IsShort dir from to → steps_out rect from ≤ 1 + steps_out rect to
one_less rect dir from to step =
    let w = step.west in let e = step.east in let s = step.south in let n = step.north in
    omega arith

falls_out : (passes : Cell → Bool) (rect : Rect) (dir : Dir) (from to : Cell) → Step passes dir from to
    → cost_out rect from ≤ step_cost dir + cost_out rect to
falls_out passes rect dir from to step =
    let near = short dir from to step.leads in
    let less = one_less rect dir from to near in
    let cost = near.cost in
    omega arith

-- where no way leads out, a cell is not in the rectangle
none_out : (rect : Rect) (cell : Cell) → (IsInRect rect cell → ⊥) → cost_out rect cell ≡ 0
none_out rect cell outside = elim (cases_lt cell.i rect.i0) [
  | inl west ↦ omega arith
  | inr more ↦ elim (cases_lt rect.i1 cell.i) [
    | inl east ↦ omega arith
    | inr less ↦ elim (cases_lt cell.j rect.j0) [
      | inl south ↦ omega arith
      | inr up ↦ elim (cases_lt rect.j1 cell.j) [
        | inl north ↦ omega arith
        | inr down ↦ absurd (outside (record { west = more; east = less; south = up; north = down }))
      ]
    ]
  ]
]

-- where no passable cell of a rectangle is hit, the way out of it is consistent
pub leaving_consistent : (passes hit : Cell → Bool) (rect : Rect)
    → ((cell : Cell) → IsTrue (passes cell) → IsInRect rect cell → IsTrue (hit cell) → ⊥)
    → IsConsistent passes hit (cost_out rect)
leaving_consistent passes hit rect missed = record {
  none = λ cell passing is_hit. none_out rect cell (λ within. missed cell passing within is_hit);
  falls = falls_out passes rect;
}

least_none : (n m : ℕ) → n ≡ 0 → n ≤ m
least_none n m none = omega (arith, none)

-- where the aim is framed by the whole map, a consistent estimate is one by which a search may go
pub whole_estimate : (passes hit framed : Cell → Bool) (size : Size) (ahead : Cell → ℕ)
    → ((cell : Cell) → IsTrue (passes cell) → IsInside size cell) → ((cell : Cell) → IsTrue (framed cell))
    → IsConsistent passes hit ahead → IsEstimate passes hit framed size ahead
whole_estimate passes hit framed size ahead within everywhere consistent = record {
  consistent = consistent;
  octile = λ other frame cell passing. least_none (octile_to other cell) (ahead cell)
      (framed_none framed size other cell frame (within cell passing) (everywhere cell));
}

-- the way out of a rectangle of which no passable cell is hit is one
pub leaving_estimate : (passes hit framed : Cell → Bool) (size : Size) (rect : Rect)
    → ((cell : Cell) → IsTrue (passes cell) → IsInside size cell)
    → ((cell : Cell) → IsTrue (framed cell))
    → ((cell : Cell) → IsTrue (passes cell) → IsInRect rect cell → IsTrue (hit cell) → ⊥)
    → IsEstimate passes hit framed size (cost_out rect)
leaving_estimate passes hit framed size rect within everywhere missed =
    whole_estimate passes hit framed size (cost_out rect) within everywhere (leaving_consistent passes hit rect missed)
