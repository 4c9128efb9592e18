-- The best cell of a stretch, which is one of its ends.
use Rattle.std.proofs.Common.{ℕ, Bool, ◌≡◌, ◌+◌, ◌-◌, ◌<◌, ◌≤◌, ◌⊎◌, inl, inr, Some, None, refl, sym, subst, arith, IsTrue}
use Rattle.std.proofs.lemmas.Bool.{cases_lt}
use Rattle.nav_types.specs.declared.cells.Cell.{Cell}
use Rattle.nav_types.specs.declared.straights.Axis.{Axis}
use Rattle.nav_types.specs.declared.straights.Axis.TheVariants.{Row}
use Rattle.nav_types.specs.Cells.{cell_at, IsNotAfter}
use Rattle.nav_types.specs.Lines.{place_on, cell_on}
use Rattle.nav_types.specs.Walks.{Joined, CanReach}
use Rattle.goal_shapes.specs.declared.goals.Goal.{Goal}
use Rattle.goal_shapes.specs.Goals.{contains, remoteness}
use Rattle.goal_shapes.specs.Limits.{IsWellFormed}
use Rattle.goal_reach.specs.declared.choices.Ranked.{Ranked}
use Rattle.goal_reach.specs.inner.Ranking.{with_rank, IsPreferred, IsBest}
use Rattle.goal_reach.specs.inner.Rings.{IsInRun}
use Rattle.goal_reach.specs.inner.Stretches.{is_inside_out, IsStretch}
use Rattle.goal_reach.proofs.Choosing.{preferred_trans, preferred_best}
use Rattle.goal_reach.proofs.InsideOut.{ends_decide, remote_outdone, deep}
use Rattle.goal_reach.proofs.Joining.{stretch_reached}
use Rattle.goal_reach.proofs.Running.{in_run, only_cell}

-- where no end of a stretch is the goal's, no cell of it is
pub none_between : (passes : Cell → Bool) (goal : Goal) (line from past : ℕ) (cell : Cell) → IsStretch passes goal Row line from past
    → IsInRun Row line from past cell → (IsTrue (contains goal (cell_at from line)) → ⊥)
    → (from + 1 < past → IsTrue (contains goal (cell_at (past - 1) line)) → ⊥) → IsTrue (contains goal cell) → ⊥
none_between passes goal line from past cell stretch it first last hit =
    let begun = it.first in let before = it.past in
    let is = only_cell Row cell line cell.i it.on_line refl in
    let here = subst (λ (c : Cell). IsTrue (contains goal c)) is hit in
    elim (cases_lt from cell.i) [
      | inl more ↦ elim stretch.several [
        | inl one ↦ absurd (omega arith)
        | inr (row, out) ↦ elim (ends_decide goal line from cell.i (past - 1) out begun (omega arith) here) [
          | inl west ↦ first west
          | inr east ↦ last (omega arith) east
        ]
      ]
      | inr at ↦ (let same : cell.i ≡ from = omega arith in first (subst (λ (i : ℕ). IsTrue (contains goal (cell_at i line))) same here))
    ]

no_less : (a b : Ranked) → a.rank ≤ b.rank → IsNotAfter a.cell b.cell → IsPreferred a b
no_less a b rank order = elim (cases_lt a.rank b.rank) [ inl less ↦ inl less | inr more ↦ inr (omega arith, order) ]

-- a cell with its remoteness
abbrev ranked : Goal → Axis → ℕ → ℕ → Ranked
ranked goal axis line place = with_rank (remoteness goal) (cell_on axis line place)

-- one of the ends is preferred to a cell between them
end_preferred : (goal : Goal) (axis : Axis) (line from k last : ℕ) → IsWellFormed goal → (axis ≡ Row) × IsTrue (is_inside_out goal) → from ≤ k → k < last
    → (IsTrue (contains goal (cell_on axis line last)) → ⊥)
    → IsPreferred (ranked goal axis line from) (ranked goal axis line k) ⊎ IsPreferred (ranked goal axis line last) (ranked goal axis line k)
end_preferred goal axis line from k last well (row, out) first before none =
    let P : Axis → Type 0 = λ a. (IsTrue (contains goal (cell_on a line last)) → ⊥)
    → IsPreferred (ranked goal a line from) (ranked goal a line k) ⊎ IsPreferred (ranked goal a line last) (ranked goal a line k) in
    let along : P Row = λ off. elim (remote_outdone goal line from k last out first before (deep goal last line well out off)) [
      | inl less ↦ inl (no_less (ranked goal Row line from) (ranked goal Row line k) less (inr (refl, first)))
      | inr more ↦ inr (inl more)
    ] in
    subst P (sym row) along none

-- the preferred one of the ends of a stretch is its best cell
pub ends_best : (passes : Cell → Bool) (goal : Goal) (start : Cell) (axis : Axis) (line from past : ℕ) (best : Ranked)
    → IsStretch passes goal axis line from past → IsWellFormed goal → (CanReach passes start (contains goal) → ⊥)
    → Joined passes start (cell_on axis line from)
    → (best ≡ ranked goal axis line from) ⊎ (best ≡ ranked goal axis line (past - 1))
    → IsPreferred best (ranked goal axis line from) → IsPreferred best (ranked goal axis line (past - 1))
    → IsBest (remoteness goal) (λ cell. Joined passes start cell × IsInRun axis line from past cell) (Some best)
ends_best passes goal start axis line from past best stretch well unreached joined one over_first over_last =
    let begun = stretch.begun in
    let Within : Cell → Type 0 = λ cell. Joined passes start cell × IsInRun axis line from past cell in
    let at_first : Within (cell_on axis line from) = (joined, in_run axis line from past from (omega arith) begun) in
    let last_run = in_run axis line from past (past - 1) (omega arith) (omega arith) in
    let last_joined = (stretch_reached passes goal start axis line from past (cell_on axis line (past - 1)) stretch last_run).0 joined in
    let at_last : Within (cell_on axis line (past - 1)) = (last_joined, last_run) in
    let all : (cell : Cell) → Within cell → IsPreferred best (with_rank (remoteness goal) cell) = λ cell within. (
    let k = place_on axis cell in let first = within.1.first in let before = within.1.past in
    let is = only_cell axis cell line k within.1.on_line refl in
    let here : IsPreferred best (ranked goal axis line k) = elim (cases_lt k (past - 1)) [
      | inl less ↦ elim stretch.several [
        | inl alone ↦ absurd (omega arith)
        | inr row ↦ elim (end_preferred goal axis line from k (past - 1) well row first less (λ hit. unreached (cell_on axis line (past - 1), (hit, last_joined)))) [
          | inl a ↦ preferred_trans best (ranked goal axis line from) (ranked goal axis line k) over_first a
          | inr b ↦ preferred_trans best (ranked goal axis line (past - 1)) (ranked goal axis line k) over_last b
        ]
      ]
      | inr at ↦ (let same : past - 1 ≡ k = omega arith in subst (λ (p : ℕ). IsPreferred best (ranked goal axis line p)) same over_last)
    ] in
    subst (λ (c : Cell). IsPreferred best (with_rank (remoteness goal) c)) (sym is) here) in
    let own : (cell : Cell) → best ≡ with_rank (remoteness goal) cell → Within cell → IsBest (remoteness goal) Within (Some best) = λ cell same within. (
    let ranks : best.rank ≡ remoteness goal best.cell = subst (λ (b : Ranked). b.rank ≡ remoteness goal b.cell) (sym same) refl in
    (ranks, preferred_best (remoteness goal) Within best ranks (subst (λ (b : Ranked). Within b.cell) (sym same) within) all)) in
    elim one [
      | inl same ↦ own (cell_on axis line from) same at_first
      | inr same ↦ own (cell_on axis line (past - 1)) same at_last
    ]

-- the best of a stretch that is not joined to the start
pub no_best : (passes : Cell → Bool) (goal : Goal) (start : Cell) (axis : Axis) (line from past : ℕ) → IsStretch passes goal axis line from past
    → (Joined passes start (cell_on axis line from) → ⊥) → IsBest (remoteness goal) (λ cell. Joined passes start cell × IsInRun axis line from past cell) None
no_best passes goal start axis line from past stretch off = λ cell within.
    off ((stretch_reached passes goal start axis line from past cell stretch within.1).1 within.0)

-- where neither end of a row's part is the goal's, no cell of it is
pub row_missed : (goal : Goal) (j first last : ℕ) (cell : Cell) → IsTrue (is_inside_out goal) → (IsTrue (contains goal (cell_at first j)) → ⊥)
    → (IsTrue (contains goal (cell_at last j)) → ⊥) → cell.j ≡ j → first ≤ cell.i → cell.i ≤ last → IsTrue (contains goal cell) → ⊥
row_missed goal j first last cell out west east row begun ended hit =
    let here = subst (λ (b : ℕ). IsTrue (contains goal (cell_at cell.i b))) row hit in
    elim (ends_decide goal j first cell.i last out begun ended here) [ inl h ↦ west h | inr h ↦ east h ]
