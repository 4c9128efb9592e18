-- Cells that a legal walk joins.
use Rattle.std.proofs.Common.{ℕ, zero, suc, Bool, true, false, not, min, ap, List, [], ◌≡◌, ◌+◌, ◌-◌, ◌<◌, ◌≤◌, ◌↔◌, ◌==◌, IsTrue, IsFalse, refl, sym, subst, ◌∙◌, inl, inr, arith}
use Rattle.std.proofs.lemmas.Bool.{eqb-true, eq-eqb, both_ways, cases_Bool, cases_lt, false≢true}
use Rattle.std.proofs.Math.Nat.{le-min, min-le_left}
use Rattle.nav_types.specs.declared.cells.Cell.{Cell}
use Rattle.nav_types.specs.declared.cells.Size.{Size}
use Rattle.nav_types.specs.declared.directions.Dir.{Dir}
use Rattle.nav_types.specs.declared.directions.Dir.TheVariants.{E}
use Rattle.nav_types.specs.declared.straights.Axis.{Axis}
use Rattle.nav_types.specs.declared.straights.Axis.TheVariants.{Row}
use Rattle.nav_types.specs.Cells.{cell_at, IsInside}
use Rattle.nav_types.specs.Lines.{place_on, line_on, cell_on, side_along, IsFirstBlocked}
use Rattle.nav_types.specs.Regions.{JoinedStraight, IsBeside}
use Rattle.nav_types.specs.Walks.{Joined}
use Rattle.nav_types.proofs.Walking.{Joined-passes, Joined-sym, Joined-trans, Joined-from_straight, JoinedStraight-refl, JoinedStraight-beside}
use Rattle.goal_shapes.specs.declared.goals.Goal.{Goal}
use Rattle.goal_reach.specs.inner.Rings.{IsInRun}
use Rattle.goal_reach.specs.inner.Stretches.{is_inside_out, IsStretch}
use Rattle.goal_reach.proofs.Running.{place_of_cell, line_of_cell, inside_side, only_cell}
use Rattle.goal_reach.specs.inner.StartAreas.{IsAreaOf}

-- what is joined to a passable cell lies in the map
pub joined_inside : (passes : Cell → Bool) (size : Size) → ((cell : Cell) → IsTrue (passes cell) → IsInside size cell) → (start cell : Cell) → IsTrue (passes start) → Joined passes start cell → IsInside size cell
joined_inside passes size within start cell passable joined = within cell (Joined-passes passes start cell passable joined)

-- a cell is joined to the start exactly where its area has the start's number
pub same_area : (passes : Cell → Bool) (HasNumber : Cell → ℕ → Type 0) (start cell : Cell) (area number : ℕ)
    → ((c : Cell) (n : ℕ) → HasNumber c n → (n ≡ 0) ↔ IsFalse (passes c))
    → ((a b : Cell) (m n : ℕ) → IsTrue (passes a) → IsTrue (passes b) → HasNumber a m → HasNumber b n → (m ≡ n) ↔ Joined passes a b)
    → IsAreaOf passes HasNumber start area → HasNumber cell number → IsTrue (number == area) ↔ Joined passes start cell
same_area passes HasNumber start cell area number blocked joined own numbered = (
  (λ test.
      let same : number ≡ area = eqb-true number area test in
      let free : IsTrue (passes cell) = elim (cases_Bool (passes cell)) [
        | inl passing ↦ passing
        | inr not ↦ absurd (both_ways (passes start) ((blocked start area own.numbered).0 (sym same ∙ (blocked cell number numbered).1 not)) own.passable)
      ] in
      (joined start cell area number own.passable free own.numbered numbered).0 (sym same)),
  (λ walk.
      let free = Joined-passes passes start cell own.passable walk in
      eq-eqb number area (sym ((joined start cell area number own.passable free own.numbered numbered).1 walk))),
)

-- ---- stretches

pub barred : (b : Bool) → IsTrue (not b) → IsTrue b → ⊥
barred true shut passing = false≢true shut
barred false shut passing = false≢true passing

freed : (b : Bool) → IsFalse (not b) → IsTrue b
freed true passing = refl
freed false passing = absurd (false≢true (sym passing))

-- the stretch from a free cell up to the next impassable one
pub stretch_found : (passes : Cell → Bool) (goal : Goal) (axis : Axis) (line from end next past : ℕ) (size : Size) (first : Cell) → first ≡ cell_on axis line from
    → IsInside size (cell_on axis line from) → IsTrue (passes (cell_on axis line from)) → from < end → past ≡ min next end
    → IsFirstBlocked (λ k. passes (cell_on axis (line_on axis first) k)) (place_on axis first) (side_along axis size) next
    → (axis ≡ Row) × IsTrue (is_inside_out goal) → IsStretch passes goal axis line from past
stretch_found passes goal axis line from end next past size first is inside free more nearer blocked several =
    let found : IsFirstBlocked (λ k. passes (cell_on axis line k)) from (side_along axis size) next =
    subst (λ (l : ℕ). IsFirstBlocked (λ k. passes (cell_on axis l k)) from (side_along axis size) next) (ap (line_on axis) is ∙ line_of_cell axis line from)
    (subst (λ (p : ℕ). IsFirstBlocked (λ k. passes (cell_on axis (line_on axis first) k)) p (side_along axis size) next) (ap (place_on axis) is ∙ place_of_cell axis line from) blocked) in
    let side = inside_side axis line from size inside in
    let short : past ≤ next = subst (λ (p : ℕ). p ≤ next) (sym nearer) (min-le_left next end) in
    let on : from < next = elim (cases_lt from next) [
      | inl less ↦ less
      | inr at ↦
          let reached = found.reached in
          let same : next ≡ from = omega arith in
          let shut : IsTrue (not (passes (cell_on axis line from))) = subst (λ (k : ℕ). IsTrue (not (passes (cell_on axis line k)))) same (found.found (omega arith)) in
          absurd (barred (passes (cell_on axis line from)) shut free)
    ] in
    record {
      begun = subst (λ (p : ℕ). from < p) (sym nearer) (le-min {a = next} {b = end} on more);
      free = λ k at before. freed (passes (cell_on axis line k)) (found.none_before k at (omega arith));
      several = inr several;
    }

-- cells of a row with no impassable cell between them are joined
row_joined : (passes : Cell → Bool) (j i d : ℕ) → ((k : ℕ) → i ≤ k → k ≤ i + d → IsTrue (passes (cell_at k j)))
    → JoinedStraight passes (cell_at i j) (cell_at (i + d) j)
row_joined passes j i zero free =
    let same : i ≡ i + 0 = omega arith in
    subst (λ (k : ℕ). JoinedStraight passes (cell_at i j) (cell_at k j)) same (JoinedStraight-refl passes (cell_at i j))
row_joined passes j i (suc d) free =
    let next : i + 1 + d ≡ i + suc d = omega arith in
    let beside : IsBeside (cell_at i j) (cell_at (i + 1) j) = (E, (refl, record { columns = omega arith; rows = omega arith })) in
    subst (λ (k : ℕ). JoinedStraight passes (cell_at i j) (cell_at k j)) next
    (JoinedStraight-beside passes (cell_at i j) (cell_at (i + 1) j) (cell_at (i + 1 + d) j) beside (free i (omega arith) (omega arith)) (free (i + 1) (omega arith) (omega arith))
    (row_joined passes j (i + 1) d (λ k west east. free k (omega arith) (omega arith))))

-- the first cell of a stretch is joined to each one
pub stretch_joined : (passes : Cell → Bool) (goal : Goal) (axis : Axis) (line from past : ℕ) (cell : Cell) → IsStretch passes goal axis line from past
    → IsInRun axis line from past cell → Joined passes (cell_on axis line from) cell
stretch_joined passes goal axis line from past cell stretch in_run =
    let place = place_on axis cell in
    let first = in_run.first in let before = in_run.past in
    let free = stretch.free in
    elim stretch.several [
      | inl one ↦
          let nothing : List Dir = [] in
          (nothing, sym (only_cell axis cell line from in_run.on_line (omega arith)))
      | inr (row, out) ↦
          let P : Axis → Type 0 = λ a. ((k : ℕ) → from ≤ k → k < past → IsTrue (passes (cell_on a line k))) → Joined passes (cell_on a line from) (cell_on a line place) in
          let along : P Row = λ all.
          let d = place - from in let to : from + d ≡ place = omega arith in
          subst (λ (k : ℕ). Joined passes (cell_at from line) (cell_at k line)) to
          (Joined-from_straight passes (cell_at from line) (cell_at (from + d) line) (row_joined passes line from d (λ k west east. all k west (omega arith)))) in
          subst (Joined passes (cell_on axis line from)) (sym (only_cell axis cell line place in_run.on_line refl)) (subst P (sym row) along free)
    ]

-- where the first cell of a stretch is joined to the start each one is, and where it is not none is
pub stretch_reached : (passes : Cell → Bool) (goal : Goal) (start : Cell) (axis : Axis) (line from past : ℕ) (cell : Cell) → IsStretch passes goal axis line from past
    → IsInRun axis line from past cell → Joined passes start (cell_on axis line from) ↔ Joined passes start cell
stretch_reached passes goal start axis line from past cell stretch in_run =
    let here = cell_on axis line from in
    let on = stretch_joined passes goal axis line from past cell stretch in_run in (
      (λ walk. Joined-trans passes start here cell walk on),
      (λ walk. Joined-trans passes start cell here walk (Joined-sym passes here cell on)),
    )
