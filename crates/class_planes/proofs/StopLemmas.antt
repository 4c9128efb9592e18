-- Where straight runs over a plane stop.
use Rattle.std.proofs.Common.{◌≡◌, ℕ, zero, suc, ◌-◌, ◌<◌, ◌≤◌, Bool, ◌⊎◌, ◌↔◌, IsTrue, IsFalse, inl, inr, sym, ◌∙◌, subst, arith}
use Rattle.std.proofs.lemmas.Bool.{cases_lt, false≢true, false_from_ne_true, cases_Bool}
use Rattle.nav_types.specs.declared.cells.Cell.{Cell}
use Rattle.nav_types.specs.declared.cells.Rect.{Rect}
use Rattle.nav_types.specs.declared.cells.Size.{Size}
use Rattle.nav_types.specs.Cells.{IsInside, IsInRect}
use Rattle.nav_types.specs.declared.straights.Axis.{Axis}
use Rattle.nav_types.specs.declared.straights.Axis.TheVariants.{Row, Column}
use Rattle.nav_types.specs.declared.straights.Straight.{Straight}
use Rattle.nav_types.specs.declared.straights.Way.{Way}
use Rattle.nav_types.specs.declared.straights.Way.TheVariants.{Up, Down}
use Rattle.nav_types.specs.Lines.{cell_on, line_on, place_on}
use Rattle.nav_types.specs.Straights.{straight_dir}
use Rattle.nav_types.specs.Frames.{IsFrame}
use Rattle.jump_scan.specs.Successors.{HasForced}
use Rattle.jump_scan.specs.Stops.{HaltsStraight, IsStraightStop, HasStraightStop}
use Rattle.jump_scan.proofs.Running.{HasPassed, HasPassed-none, HasPassed-more, IsStop-next, no_stop}
use Rattle.class_planes.specs.Planes.{PlaneCells, is_passable}
use Rattle.class_planes.proofs.PlaneLemmas.{only_inside}
use Rattle.class_planes.specs.inner.Runs.{Far, RunsFar, TellsStop, IsFirstHit, cell_along, place_along, HasRoom}

-- a run has halted nowhere on its first steps
passed : (passes hit : Cell → Bool) (straight : Straight) (from : Cell) (far : Far) → RunsFar passes straight from far → (m : ℕ)
    → m ≤ far.count
    → ((n : ℕ) → 0 < n → n ≤ m → IsFalse (hit (cell_along straight from n)))
    → ((n : ℕ) → suc n ≤ m → HasForced passes (cell_along straight from (suc n)) (straight_dir straight) → ⊥)
    → HasPassed passes (HaltsStraight passes hit (straight_dir straight)) (straight_dir straight) from (cell_along straight from m)
passed passes hit straight from far runs zero within misses plain =
    subst (HasPassed passes (HaltsStraight passes hit (straight_dir straight)) (straight_dir straight) from) runs.start
    (HasPassed-none passes (HaltsStraight passes hit (straight_dir straight)) (straight_dir straight) from)
passed passes hit straight from far runs (suc m) within misses plain =
    HasPassed-more passes (HaltsStraight passes hit (straight_dir straight)) (straight_dir straight) from (cell_along straight from m) (cell_along straight from (suc m))
    (passed passes hit straight from far runs m (omega (arith, within)) (λ n some few. misses n some (omega (arith, few)))
    (λ n few. plain n (omega (arith, few))))
    (runs.steps m within)
    (λ halts. elim halts [
      | inl hits ↦ let miss = misses (suc m) (omega arith) (omega arith) in absurd (false≢true (sym miss ∙ hits))
      | inr forced ↦ plain m (omega arith) forced
    ])

-- the first hit is the stop
pub stop_hit : (passes hit : Cell → Bool) (straight : Straight) (from : Cell) (far : Far) (steps : ℕ)
    → RunsFar passes straight from far
    → IsFirstHit hit straight from far.count steps → IsStraightStop passes hit (straight_dir straight) from (cell_along straight from steps)
stop_hit passes hit straight from far steps runs first =
    let some = first.some in
    let most = first.most in
    let m : ℕ = steps - 1 in
    let all : suc m ≡ steps = omega (arith, some) in
    subst (λ n. IsStraightStop passes hit (straight_dir straight) from (cell_along straight from n)) all
    (IsStop-next passes (HaltsStraight passes hit (straight_dir straight)) (straight_dir straight) from (cell_along straight from m) (cell_along straight from (suc m))
    (passed passes hit straight from far runs m (omega (arith, most))
    (λ n there few. first.none n there (omega (arith, few, some)))
    (λ n few. runs.plain n (omega (arith, few, most, some))))
    (runs.steps m (omega (arith, all, most)))
    (inl (subst (λ n. IsTrue (hit (cell_along straight from n))) (sym all) first.hits)))

-- where nothing is hit, a side that opens makes the stop
pub stop_end : (passes hit : Cell → Bool) (straight : Straight) (from : Cell) (far : Far) → RunsFar passes straight from far
    → ((n : ℕ) → 0 < n → n ≤ far.count → IsFalse (hit (cell_along straight from n))) → IsTrue far.forced
    → IsStraightStop passes hit (straight_dir straight) from (cell_along straight from far.count)
stop_end passes hit straight from far runs misses is =
    let forced = runs.forced is in
    let m : ℕ = forced.0 in
    let all : suc m ≡ far.count = forced.1.0 in
    subst (λ n. IsStraightStop passes hit (straight_dir straight) from (cell_along straight from n)) all
    (IsStop-next passes (HaltsStraight passes hit (straight_dir straight)) (straight_dir straight) from (cell_along straight from m) (cell_along straight from (suc m))
    (passed passes hit straight from far runs m (omega (arith, all))
    (λ n there few. misses n there (omega (arith, few, all)))
    (λ n few. runs.plain n (omega (arith, few, all))))
    (runs.steps m (omega (arith, all)))
    (inr forced.1.1))

-- and where none opens, there is no stop
pub stop_none : (passes hit : Cell → Bool) (straight : Straight) (from : Cell) (far : Far) → RunsFar passes straight from far
    → ((n : ℕ) → 0 < n → n ≤ far.count → IsFalse (hit (cell_along straight from n))) → IsFalse far.forced
    → (stop : Cell) → IsStraightStop passes hit (straight_dir straight) from stop → ⊥
stop_none passes hit straight from far runs misses is =
    no_stop passes (HaltsStraight passes hit (straight_dir straight)) (straight_dir straight) from (cell_along straight from far.count)
    (passed passes hit straight from far runs far.count (omega arith) misses
    (λ n few. elim (cases_lt (suc n) far.count) [
      | inl less ↦ runs.plain n less
      | inr all ↦ runs.last is n (omega (arith, all, few))
    ]))
    (runs.ends is)

-- one of the cells is the first that is hit, or none of them is
first_or_none : (hit : Cell → Bool) (straight : Straight) (from : Cell) (count : ℕ)
    → ((steps : ℕ) × IsFirstHit hit straight from count steps)
    ⊎ ((n : ℕ) → 0 < n → n ≤ count → IsFalse (hit (cell_along straight from n)))
first_or_none hit straight from zero = inr (λ n some few. absurd (omega (arith, some, few)))
first_or_none hit straight from (suc count) = elim (first_or_none hit straight from count) [
  | inl found ↦
      let first = found.1 in
      let most = first.most in
      inl (found.0, record { some = first.some; most = omega (arith, most); hits = first.hits; none = first.none })
  | inr none ↦ elim (cases_Bool (hit (cell_along straight from (suc count)))) [
    | inl hits ↦ inl (
      suc count,
      record {
        some = omega arith;
        most = omega arith;
        hits = hits;
        none = λ n some less. none n some (omega (arith, less));
      },
    )
    | inr misses ↦ inr (λ n some few. elim (cases_lt count n) [
      | inl last ↦
          let same : suc count ≡ n = omega (arith, last, few) in
          subst (λ k. IsFalse (hit (cell_along straight from k))) same misses
      | inr before ↦ none n some before
    ])
  ]
]

-- a side that opens makes a stop, there or before
pub stop_somewhere : (passes hit : Cell → Bool) (straight : Straight) (from : Cell) (far : Far) → RunsFar passes straight from far
    → IsTrue far.forced → HasStraightStop passes hit (straight_dir straight) from
stop_somewhere passes hit straight from far runs is = elim (first_or_none hit straight from far.count) [
  | inl found ↦ (cell_along straight from found.0, stop_hit passes hit straight from far found.0 runs found.1)
  | inr none ↦ (cell_along straight from far.count, stop_end passes hit straight from far runs none is)
]

-- a cell out of the aim's rectangle is not hit
pub misses_outside : (hit framed : Cell → Bool) (size : Size) (rect : Rect) (cell : Cell) → IsFrame framed size rect
    → IsInside size cell
    → (IsTrue (hit cell) → IsTrue (framed cell)) → (IsInRect rect cell → ⊥) → IsFalse (hit cell)
misses_outside hit framed size rect cell frame inside within outside =
    false_from_ne_true (hit cell) (λ hits. outside ((frame.exact cell inside).1 (within hits)))

-- a run along a line that does not meet the aim's rectangle hits nothing
pub run_misses : (plane : PlaneCells) (hit framed : Cell → Bool) (rect : Rect) (straight : Straight) (from : Cell) (far : Far)
    → IsFrame framed plane.size rect
    → ((cell : Cell) → IsInside plane.size cell → IsTrue (hit cell) → IsTrue (framed cell))
    → ((n : ℕ) → IsInRect rect (cell_along straight from n) → ⊥) → RunsFar (is_passable plane) straight from far
    → (n : ℕ) → 0 < n → n ≤ far.count → IsFalse (hit (cell_along straight from n))
run_misses plane hit framed rect straight from far frame within apart runs n some few =
    let inside = only_inside plane (cell_along straight from n) (runs.free n few) in
    misses_outside hit framed plane.size rect (cell_along straight from n) frame inside (within (cell_along straight from n) inside)
    (apart n)

-- where the line of a run does not meet the aim's rectangle, the stops known beforehand tell whether it has one
pub known_stop : (plane : PlaneCells) (hit framed : Cell → Bool) (rect : Rect) (straight : Straight) (from : Cell) (stop : Bool)
    → IsFrame framed plane.size rect
    → ((cell : Cell) → IsInside plane.size cell → IsTrue (hit cell) → IsTrue (framed cell))
    → ((n : ℕ) → IsInRect rect (cell_along straight from n) → ⊥) → TellsStop (is_passable plane) straight from stop
    → IsTrue stop ↔ HasStraightStop (is_passable plane) hit (straight_dir straight) from
known_stop plane hit framed rect straight from stop frame within apart known = (
  λ is. stop_somewhere (is_passable plane) hit straight from known.0 known.1.0 (sym known.1.1 ∙ is),
  λ has. elim (cases_Bool stop) [
    | inl is ↦ is
    | inr misses ↦ absurd (stop_none (is_passable plane) hit straight from known.0 known.1.0
        (run_misses plane hit framed rect straight from known.0 frame within apart known.1.0)
        (sym known.1.1 ∙ misses) has.0 has.1)
  ],
)

few_on : (axis : Axis) (way : Way) (size : Size) (from : Cell) (count : ℕ) → HasRoom way (place_on axis from) count
    → size.w ≤ 2048 → size.h ≤ 2048
    → IsInside size (cell_on axis (line_on axis from) (place_along way (place_on axis from) 0))
    → IsInside size (cell_on axis (line_on axis from) (place_along way (place_on axis from) count)) → count ≤ 2048
few_on Row Up size from count room wide high first last = let column = last.column in omega (arith, column, wide)
few_on Row Down size from count room wide high first last = let column = first.column in omega (arith, room, column, wide)
few_on Column Up size from count room wide high first last = let row = last.row in omega (arith, row, high)
few_on Column Down size from count room wide high first last = let row = first.row in omega (arith, room, row, high)

-- a run in a map has few steps
pub few_steps : (size : Size) (straight : Straight) (from : Cell) (count : ℕ)
    → HasRoom straight.way (place_on straight.axis from) count → size.w ≤ 2048 → size.h ≤ 2048
    → IsInside size (cell_along straight from 0) → IsInside size (cell_along straight from count) → count ≤ 2048
few_steps size straight from count room wide high first last =
    few_on straight.axis straight.way size from count room wide high first last
