-- Each leg of a legal walk is clear.
use Rattle.std.proofs.Common.{ℕ, zero, suc, ◌≡◌, ◌+◌, ◌*◌, ◌<◌, ◌≤◌, ◌⊎◌, inl, inr, Bool, true, not, ◌&&◌, cond, eqb, List, [], ◌∷◌, ◌++◌, Some, IsTrue, refl, sym, ap, subst, arith}
use Rattle.std.specs.Prelude.{slice_get, if◌then◌else◌}
use Rattle.std.proofs.lemmas.Bool.{cases_Bool, cases_eq, cases_lt, cases_order, and_parts, eqb-true}
use Rattle.std.proofs.lemmas.Option.{same_Some, slice_get_within}
use Rattle.std.proofs.Math.Nat.{mul-le-mul_left}
use Rattle.nav_types.specs.declared.cells.Cell.{Cell}
use Rattle.nav_types.specs.declared.directions.Dir.{Dir}
use Rattle.nav_types.specs.declared.directions.Dir.TheVariants.{N, E, S, W, NE, SE, SW, NW}
use Rattle.nav_types.specs.Cells.{cell_at}
use Rattle.nav_types.specs.Directions.{east, west, north, south, Leads}
use Rattle.nav_types.specs.Walks.{Step, IsWalk}
use Rattle.nav_types.proofs.CellOrder.{same_cell}
use Rattle.walks.specs.Chosen.{IsAnswer}
use Rattle.walks.proofs.Tracing.{chosen_walk}
use Rattle.walks.specs.Waypoints.{cell_after, is_same_way, waypoints}
use Rattle.line_smooth.specs.Segments.{gap, IsClear}
use Rattle.line_smooth.specs.Smoothed.{AreCorners}
use Rattle.line_smooth.specs.inner.Plans.{AreLegsClear}

-- so many steps in one direction lead from one cell to another: the cells on the way are passable, and those beside its steps
record IsRun (passes : Cell → Bool) (dir : Dir) (steps : ℕ) (from at : Cell) : Type 0 where
  pub columns : at.i + west dir * steps ≡ from.i + east dir * steps
  pub rows : at.j + south dir * steps ≡ from.j + north dir * steps
  pub on : (k : ℕ) (c : Cell) → k ≤ steps → c.i + west dir * k ≡ from.i + east dir * k → c.j + south dir * k ≡ from.j + north dir * k → IsTrue (passes c)
  pub side : (k : ℕ) (c : Cell) → k < steps → c.i + west dir * (k + 1) ≡ from.i + east dir * (k + 1) → c.j + south dir * k ≡ from.j + north dir * k → IsTrue (passes c)
  pub ahead : (k : ℕ) (c : Cell) → k < steps → c.i + west dir * k ≡ from.i + east dir * k → c.j + south dir * (k + 1) ≡ from.j + north dir * (k + 1) → IsTrue (passes c)

run_none : (passes : Cell → Bool) (dir : Dir) (from : Cell) → IsTrue (passes from) → IsRun passes dir 0 from from
run_none passes dir from free = record {
  columns = omega arith;
  rows = omega arith;
  on = λ k c few columns rows.
      (let none : k ≡ 0 = omega arith in
      let w = ap (λ (n : ℕ). west dir * n) none in let e = ap (λ (n : ℕ). east dir * n) none in
      let s = ap (λ (n : ℕ). south dir * n) none in let n = ap (λ (n : ℕ). north dir * n) none in
      let P = λ (cell : Cell). IsTrue (passes cell) in
      subst P (same_cell from c (omega arith) (omega arith)) free);
  side = λ k c few columns rows. absurd (omega arith);
  ahead = λ k c few columns rows. absurd (omega arith);
}

run_more : (passes : Cell → Bool) (dir : Dir) (steps : ℕ) (from at next : Cell) → IsRun passes dir steps from at → Step passes dir at next
    → IsRun passes dir (steps + 1) from next
run_more passes dir steps from at next run step =
    let columns = run.columns in let rows = run.rows in
    let led = step.leads.columns in let rowed = step.leads.rows in
    let P = λ (cell : Cell). IsTrue (passes cell) in record {
      columns = omega arith;
      rows = omega arith;
      on = λ k c few column row. elim (cases_eq k (steps + 1)) [
        | inl last ↦
            let w = ap (λ (n : ℕ). west dir * n) last in let e = ap (λ (n : ℕ). east dir * n) last in
            let s = ap (λ (n : ℕ). south dir * n) last in let n = ap (λ (n : ℕ). north dir * n) last in
            subst P (same_cell next c (omega arith) (omega arith)) step.next
        | inr other ↦ run.on k c (omega arith) column row
      ];
      side = λ k c few column row. elim (cases_eq k steps) [
        | inl last ↦
            let w = ap (λ (n : ℕ). west dir * n) last in let e = ap (λ (n : ℕ). east dir * n) last in
            let s = ap (λ (n : ℕ). south dir * n) last in let n = ap (λ (n : ℕ). north dir * n) last in
            subst P (same_cell (cell_at next.i at.j) c (omega arith) (omega arith)) step.side
        | inr other ↦ run.side k c (omega arith) column row
      ];
      ahead = λ k c few column row. elim (cases_eq k steps) [
        | inl last ↦
            let w = ap (λ (n : ℕ). west dir * n) last in let e = ap (λ (n : ℕ). east dir * n) last in
            let s = ap (λ (n : ℕ). south dir * n) last in let n = ap (λ (n : ℕ). north dir * n) last in
            subst P (same_cell (cell_at at.i next.j) c (omega arith) (omega arith)) step.ahead
        | inr other ↦ run.ahead k c (omega arith) column row
      ];
    }

-- a diagonal segment touches the cells on it and those beside its steps
too_far : (n x y : ℕ) → 0 < n → y + 2 ≤ x → 2 * gap (n * y) (n * x) ≤ n + n → ⊥
too_far n x y some far near = let product = mul-le-mul_left n far in omega arith

close : (n wide high x y : ℕ) → 0 < n → wide ≡ n → high ≡ n → 2 * gap (wide * y) (high * x) ≤ wide + high → (x ≡ y) ⊎ ((x ≡ y + 1) ⊎ (y ≡ x + 1))
close n wide high x y some is_wide is_high near =
    let P = λ (m : ℕ). 2 * gap (m * y) (high * x) ≤ m + high in
    let Q = λ (m : ℕ). 2 * gap (n * y) (m * x) ≤ n + m in
    let here : 2 * gap (n * y) (n * x) ≤ n + n = subst Q is_high (subst P is_wide near) in
    let turned : 2 * gap (n * x) (n * y) ≤ n + n = omega arith in
    elim (cases_lt (y + 1) x) [
      | inl far ↦ absurd (too_far n x y some (omega arith) here)
      | inr low ↦ elim (cases_lt (x + 1) y) [
        | inl far ↦ absurd (too_far n y x some (omega arith) turned)
        | inr high ↦ elim (cases_order x y) [
          | inl same ↦ inl same
          | inr order ↦ elim order [ inl less ↦ inr (inr (omega arith)) | inr more ↦ inr (inl (omega arith)) ]
        ]
      ]
    ]

-- a run is clear: a straight one touches the cells on it alone
run_clear : (passes : Cell → Bool) (dir : Dir) (steps : ℕ) (from at : Cell) → 0 < steps → IsRun passes dir steps from at → IsClear passes from at
run_clear passes N steps from at some run c touches =
    let columns = run.columns in let rows = run.rows in let column = touches.columns in let row = touches.rows in
    run.on (gap from.j c.j) c (omega arith) (omega arith) (omega arith)
run_clear passes E steps from at some run c touches =
    let columns = run.columns in let rows = run.rows in let column = touches.columns in let row = touches.rows in
    run.on (gap from.i c.i) c (omega arith) (omega arith) (omega arith)
run_clear passes S steps from at some run c touches =
    let columns = run.columns in let rows = run.rows in let column = touches.columns in let row = touches.rows in
    run.on (gap from.j c.j) c (omega arith) (omega arith) (omega arith)
run_clear passes W steps from at some run c touches =
    let columns = run.columns in let rows = run.rows in let column = touches.columns in let row = touches.rows in
    run.on (gap from.i c.i) c (omega arith) (omega arith) (omega arith)
run_clear passes NE steps from at some run c touches =
    let columns = run.columns in let rows = run.rows in let column = touches.columns in let row = touches.rows in
    elim (close steps (gap from.i at.i) (gap from.j at.j) (gap from.i c.i) (gap from.j c.j) some (omega arith) (omega arith) touches.near) [
      | inl same ↦ run.on (gap from.i c.i) c (omega arith) (omega arith) (omega arith)
      | inr beside ↦ elim beside [
        | inl wide ↦ run.side (gap from.j c.j) c (omega arith) (omega arith) (omega arith)
        | inr high ↦ run.ahead (gap from.i c.i) c (omega arith) (omega arith) (omega arith)
      ]
    ]
run_clear passes SE steps from at some run c touches =
    let columns = run.columns in let rows = run.rows in let column = touches.columns in let row = touches.rows in
    elim (close steps (gap from.i at.i) (gap from.j at.j) (gap from.i c.i) (gap from.j c.j) some (omega arith) (omega arith) touches.near) [
      | inl same ↦ run.on (gap from.i c.i) c (omega arith) (omega arith) (omega arith)
      | inr beside ↦ elim beside [
        | inl wide ↦ run.side (gap from.j c.j) c (omega arith) (omega arith) (omega arith)
        | inr high ↦ run.ahead (gap from.i c.i) c (omega arith) (omega arith) (omega arith)
      ]
    ]
run_clear passes SW steps from at some run c touches =
    let columns = run.columns in let rows = run.rows in let column = touches.columns in let row = touches.rows in
    elim (close steps (gap from.i at.i) (gap from.j at.j) (gap from.i c.i) (gap from.j c.j) some (omega arith) (omega arith) touches.near) [
      | inl same ↦ run.on (gap from.i c.i) c (omega arith) (omega arith) (omega arith)
      | inr beside ↦ elim beside [
        | inl wide ↦ run.side (gap from.j c.j) c (omega arith) (omega arith) (omega arith)
        | inr high ↦ run.ahead (gap from.i c.i) c (omega arith) (omega arith) (omega arith)
      ]
    ]
run_clear passes NW steps from at some run c touches =
    let columns = run.columns in let rows = run.rows in let column = touches.columns in let row = touches.rows in
    elim (close steps (gap from.i at.i) (gap from.j at.j) (gap from.i c.i) (gap from.j c.j) some (omega arith) (omega arith) touches.near) [
      | inl same ↦ run.on (gap from.i c.i) c (omega arith) (omega arith) (omega arith)
      | inr beside ↦ elim beside [
        | inl wide ↦ run.side (gap from.j c.j) c (omega arith) (omega arith) (omega arith)
        | inr high ↦ run.ahead (gap from.i c.i) c (omega arith) (omega arith) (omega arith)
      ]
    ]

-- a direction is known by how far it goes in the four straight ones
dir_of : ℕ → ℕ → ℕ → ℕ → Dir
dir_of e w n s = cond (eqb e 1) (cond (eqb n 1) NE (cond (eqb s 1) SE E)) (cond (eqb w 1) (cond (eqb n 1) NW (cond (eqb s 1) SW W)) (cond (eqb n 1) N S))

dir_of-self : (dir : Dir) → dir_of (east dir) (west dir) (north dir) (south dir) ≡ dir
unfolding dir_of
dir_of-self N = refl
dir_of-self E = refl
dir_of-self S = refl
dir_of-self W = refl
dir_of-self NE = refl
dir_of-self SE = refl
dir_of-self SW = refl
dir_of-self NW = refl

same_dir : (a b : Dir) → is_same_way a b ≡ true → a ≡ b
same_dir a b same =
    let n = and_parts ((eqb (east a) (east b) && eqb (west a) (west b)) && eqb (north a) (north b)) (eqb (south a) (south b)) same in
    let w = and_parts (eqb (east a) (east b) && eqb (west a) (west b)) (eqb (north a) (north b)) n.0 in
    let e = and_parts (eqb (east a) (east b)) (eqb (west a) (west b)) w.0 in
    let p = eqb-true (east a) (east b) e.0 in
    let q = eqb-true (west a) (west b) e.1 in
    let r = eqb-true (north a) (north b) w.1 in
    let t = eqb-true (south a) (south b) n.1 in
    let x = dir_of-self a in let y = dir_of-self b in
    cc

-- each place sees the next one
abbrev AreLegs : (Cell → Bool) → Cell → List Cell → Type 0
AreLegs passes from [] = Unit {0}
AreLegs passes from (next ∷ rest) = IsClear passes from next × AreLegs passes next rest

after_is : (dir : Dir) (from next : Cell) → Leads dir from next → cell_after dir from ≡ next
after_is dir from next leads =
    let columns = leads.columns in let rows = leads.rows in
    same_cell (cell_after dir from) next (omega arith) (omega arith)

legs_from : (passes : Cell → Bool) (dirs : List Dir) (dir : Dir) (steps : ℕ) (from at to : Cell) → IsRun passes dir steps from at
    → IsWalk passes at (dir ∷ dirs) to → AreLegs passes from (waypoints at (dir ∷ dirs))
legs_from passes [] dir steps from at to run walk =
    let next = walk.0 in let step = walk.1.0 in
    let P = λ (c : Cell). IsClear passes from c in
    (subst P (sym (after_is dir at next step.leads)) (run_clear passes dir (steps + 1) from next (omega arith) (run_more passes dir steps from at next run step)), tt)
legs_from passes (turn ∷ dirs) dir steps from at to run walk =
    let next = walk.0 in let step = walk.1.0 in
    let longer = run_more passes dir steps from at next run step in
    let is = sym (after_is dir at next step.leads) in
    let P = λ (v : Bool). AreLegs passes from ((if not v then cell_after dir at ∷ [] else []) ++ waypoints (cell_after dir at) (turn ∷ dirs)) in
    elim (cases_Bool (is_same_way dir turn)) [
      | inl same ↦
          let Q = λ (d : Dir). IsRun passes d (steps + 1) from next in
          let R = λ (c : Cell). AreLegs passes from (waypoints c (turn ∷ dirs)) in
          subst P (sym same) (subst R is (legs_from passes dirs turn (steps + 1) from next to (subst Q (same_dir dir turn same) longer) walk.1.1))
      | inr other ↦
          let R = λ (c : Cell). IsClear passes from c × AreLegs passes c (waypoints c (turn ∷ dirs)) in
          subst P (sym other) (subst R is (
            run_clear passes dir (steps + 1) from next (omega arith) longer,
            legs_from passes dirs turn 0 next next to (run_none passes turn next step.next) walk.1.1,
          ))
    ]

legs_at : (passes : Cell → Bool) (from : Cell) (rest : List Cell) → AreLegs passes from rest → (k : ℕ) (a b : Cell)
    → slice_get (from ∷ rest) k ≡ Some a → slice_get (from ∷ rest) (suc k) ≡ Some b → IsClear passes a b
legs_at passes from [] legs k a b at_a at_b = absurd (omega (arith, slice_get_within (from ∷ []) (suc k) b at_b))
legs_at passes from (next ∷ rest) legs zero a b at_a at_b =
    let P = λ (c : Cell). IsClear passes c b in
    let Q = λ (c : Cell). IsClear passes from c in
    subst P (same_Some from a at_a) (subst Q (same_Some next b at_b) legs.0)
legs_at passes from (next ∷ rest) legs (suc k) a b at_a at_b = legs_at passes next rest legs.1 k a b at_a at_b

walk_legs : (passes : Cell → Bool) (start end : Cell) (dirs : List Dir) → IsWalk passes start dirs end → AreLegs passes start (waypoints start dirs)
walk_legs passes start end [] walk = tt
walk_legs passes start end (dir ∷ dirs) walk = legs_from passes dirs dir 0 start start end (run_none passes dir start walk.1.0.start) walk

pub clear_legs : (passes : Cell → Bool) (start : Cell) (corners : List Cell) → AreCorners passes start corners → AreLegsClear passes (start ∷ corners)
clear_legs passes start corners are from long a b at_a at_b =
    let P = λ (points : List Cell). AreLegs passes start points in
    let legs : AreLegs passes start corners = subst P (sym are.turns) (walk_legs passes start are.end are.dirs are.walk) in
    let on : from + 1 ≡ suc from = omega arith in
    let Q = λ (k : ℕ). slice_get (start ∷ corners) k ≡ Some b in
    legs_at passes start corners legs from a b at_a (subst Q on at_b)

-- the waypoints of a search's answer are corners of a legal walk
pub corners_of_answer : (passes hit : Cell → Bool) (start end : Cell) (cost : ℕ) (points : List Cell) → IsAnswer passes start hit end cost points → AreCorners passes start points
corners_of_answer passes hit start end cost points answer = record {
  dirs = answer.walk.0;
  end = end;
  walk = chosen_walk passes start end answer.walk.0 answer.walk.1.0;
  turns = answer.walk.1.1.1;
}
