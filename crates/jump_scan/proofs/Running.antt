-- Runs of steps in one direction, and where they stop.
use Rattle.std.proofs.Common.{ℕ, zero, suc, ◌≡◌, ◌+◌, ◌-◌, ◌<◌, ◌≤◌, Bool, refl, inl, inr, sym, subst, ◌∙◌, arith}
use Rattle.std.proofs.lemmas.Bool.{cases_lt, cases_order}
use Rattle.nav_types.specs.declared.cells.Cell.{Cell}
use Rattle.nav_types.specs.declared.cells.Size.{Size}
use Rattle.nav_types.specs.declared.directions.Dir.{Dir}
use Rattle.nav_types.specs.declared.directions.Dir.TheVariants.{N, E, S, W, NE, SE, SW, NW}
use Rattle.nav_types.specs.Walks.{Step}
use Rattle.nav_types.proofs.Walking.{leads_to_same}
use Rattle.jump_scan.specs.Stops.{IsRun, IsStop}

-- one step more at the end of a run
pub run_more : (passes : Cell → Bool) (dir : Dir) (count : ℕ) (from cell next : Cell) → IsRun passes dir count from cell → Step passes dir cell next
    → IsRun passes dir (suc count) from next
run_more passes dir zero from cell next run step = (next, (subst (λ (c : Cell). Step passes dir c next) (sym run) step, refl))
run_more passes dir (suc count) from cell next run step = (run.0, (run.1.0, run_more passes dir count run.0 cell next run.1.1 step))

-- so many steps lead to one cell
pub run_once : (passes : Cell → Bool) (dir : Dir) (count : ℕ) (from a b : Cell) → IsRun passes dir count from a → IsRun passes dir count from b → a ≡ b
run_once passes dir zero from a b one two = sym one ∙ two
run_once passes dir (suc count) from a b one two =
    let same = leads_to_same dir from one.0 two.0 one.1.0.leads two.1.0.leads in
    run_once passes dir count two.0 a b (subst (λ (c : Cell). IsRun passes dir count c a) same one.1.1) two.1.1

-- a longer run goes on by a step from the end of a shorter one
run_goes_on : (passes : Cell → Bool) (dir : Dir) (fewer count : ℕ) (from cell to : Cell) → fewer < count → IsRun passes dir fewer from cell
    → IsRun passes dir count from to → (next : Cell) × Step passes dir cell next
run_goes_on passes dir fewer zero from cell to less one two = absurd (omega (arith, less))
run_goes_on passes dir zero (suc count) from cell to less one two =
    (two.0, subst (λ (c : Cell). Step passes dir c two.0) one two.1.0)
run_goes_on passes dir (suc fewer) (suc count) from cell to less one two =
    let same = leads_to_same dir from one.0 two.0 one.1.0.leads two.1.0.leads in
    run_goes_on passes dir fewer count two.0 cell to (omega (arith, less)) (subst (λ (c : Cell). IsRun passes dir fewer c cell) same one.1.1) two.1.1

-- a run has come to the cell, and has halted nowhere after its begin
pub record HasPassed (passes : Cell → Bool) (Halts : Cell → Type 0) (dir : Dir) (from cell : Cell) : Type 0 where
  pub count : ℕ
  pub run : IsRun passes dir count from cell
  pub none : (fewer : ℕ) (passed : Cell) → 0 < fewer → fewer ≤ count → IsRun passes dir fewer from passed → Halts passed → ⊥

pub HasPassed-none : (passes : Cell → Bool) (Halts : Cell → Type 0) (dir : Dir) (from : Cell) → HasPassed passes Halts dir from from
HasPassed-none passes Halts dir from = record {
  count = 0;
  run = refl;
  none = λ fewer passed some few run halts. omega (arith, some, few);
}

-- the same after so many steps
abbrev pub HasGone : (Cell → Bool) → (Cell → Type 0) → Dir → Cell → Cell → ℕ → Type 0
HasGone passes Halts dir from cell steps = (past : HasPassed passes Halts dir from cell) × (past.count ≡ steps)

pub HasGone-none : (passes : Cell → Bool) (Halts : Cell → Type 0) (dir : Dir) (from : Cell) → HasGone passes Halts dir from from 0
unfolding HasPassed-none
HasGone-none passes Halts dir from = (HasPassed-none passes Halts dir from, refl)

pub HasGone-more : (passes : Cell → Bool) (Halts : Cell → Type 0) (dir : Dir) (from cell next : Cell) (steps : ℕ)
    → HasGone passes Halts dir from cell steps → Step passes dir cell next → (Halts next → ⊥)
    → HasGone passes Halts dir from next (steps + 1)
HasGone-more passes Halts dir from cell next steps gone step never =
    let past = gone.0 in
    let is = gone.1 in
    let count = past.count in
    let longer = run_more passes dir count from cell next past.run step in (
      record {
        count = suc count;
        run = longer;
        none = λ fewer passed some few run halts. elim (cases_lt count fewer) [
          | inl last ↦
              let all : fewer ≡ suc count = omega (arith, last, few) in
              let same = run_once passes dir (suc count) from passed next (subst (λ (n : ℕ). IsRun passes dir n from passed) all run) longer in
              never (subst Halts same halts)
          | inr before ↦ past.none fewer passed some before run halts
        ];
      },
      omega (arith, is),
    )

pub HasPassed-more : (passes : Cell → Bool) (Halts : Cell → Type 0) (dir : Dir) (from cell next : Cell) → HasPassed passes Halts dir from cell
    → Step passes dir cell next → (Halts next → ⊥) → HasPassed passes Halts dir from next
HasPassed-more passes Halts dir from cell next past step never =
    (HasGone-more passes Halts dir from cell next past.count (past, refl) step never).0

pub IsStop-next : (passes : Cell → Bool) (Halts : Cell → Type 0) (dir : Dir) (from cell next : Cell) → HasPassed passes Halts dir from cell
    → Step passes dir cell next → Halts next → IsStop passes Halts dir from next
IsStop-next passes Halts dir from cell next past step halts = record {
  count = suc past.count;
  some = omega arith;
  run = run_more passes dir past.count from cell next past.run step;
  halts = halts;
  first = λ fewer passed some less run is. past.none fewer passed some (omega (arith, less)) run is;
}

-- a stop within so many steps
abbrev pub IsStopWithin : (Cell → Bool) → (Cell → Type 0) → Dir → ℕ → Cell → Cell → Type 0
IsStopWithin passes Halts dir most from stop = (is : IsStop passes Halts dir from stop) × (is.count ≤ most)

pub IsStopWithin-next : (passes : Cell → Bool) (Halts : Cell → Type 0) (dir : Dir) (from cell next : Cell) (steps most : ℕ)
    → HasGone passes Halts dir from cell steps → steps < most → Step passes dir cell next → Halts next
    → IsStopWithin passes Halts dir most from next
IsStopWithin-next passes Halts dir from cell next steps most gone less step halts =
    let past = gone.0 in
    let count = gone.1 in (
      record {
        count = suc past.count;
        some = omega arith;
        run = run_more passes dir past.count from cell next past.run step;
        halts = halts;
        first = λ fewer passed some less run is. past.none fewer passed some (omega (arith, less)) run is;
      },
      omega (arith, count, less),
    )

-- a run that has halted nowhere within so many steps has no stop there
pub no_stop_within : (passes : Cell → Bool) (Halts : Cell → Type 0) (dir : Dir) (from cell : Cell) (steps most : ℕ)
    → HasGone passes Halts dir from cell steps → most ≤ steps → (stop : Cell) → IsStopWithin passes Halts dir most from stop → ⊥
no_stop_within passes Halts dir from cell steps most gone through stop is =
    let count = gone.1 in
    let near = is.1 in
    gone.0.none is.0.count stop is.0.some (omega (arith, count, near, through)) is.0.run is.0.halts

pub no_stop : (passes : Cell → Bool) (Halts : Cell → Type 0) (dir : Dir) (from cell : Cell) → HasPassed passes Halts dir from cell
    → ((next : Cell) → Step passes dir cell next → ⊥) → (stop : Cell) → IsStop passes Halts dir from stop → ⊥
no_stop passes Halts dir from cell past ends stop is =
    let run = is.run in
    let some = is.some in
    elim (cases_lt past.count is.count) [
      | inl longer ↦ let on = run_goes_on passes dir past.count is.count from cell stop longer past.run run in ends on.0 on.1
      | inr within ↦ past.none is.count stop some within run is.halts
    ]

pub one_stop_only : (passes : Cell → Bool) (Halts : Cell → Type 0) (dir : Dir) (from a b : Cell) → IsStop passes Halts dir from a
    → IsStop passes Halts dir from b → a ≡ b
one_stop_only passes Halts dir from a b one two =
    let some_one = one.some in let some_two = two.some in
    elim (cases_order one.count two.count) [
      | inl same ↦ run_once passes dir two.count from a b (subst (λ (n : ℕ). IsRun passes dir n from a) same one.run) two.run
      | inr other ↦ elim other [
        | inl less ↦ absurd (two.first one.count a some_one less one.run one.halts)
        | inr more ↦ absurd (one.first two.count b some_two more two.run two.halts)
      ]
    ]

-- how many steps in the direction are left on the map
abbrev pub left_over : Size → Dir → Cell → ℕ
left_over size N cell = size.h - cell.j
left_over size E cell = size.w - cell.i
left_over size S cell = cell.j
left_over size W cell = cell.i
left_over size NE cell = size.h - cell.j
left_over size SE cell = cell.j
left_over size SW cell = cell.j
left_over size NW cell = size.h - cell.j
