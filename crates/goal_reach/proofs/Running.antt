-- Runs along a line, and blocks of lines.
use Rattle.std.proofs.Common.{ℕ, ◌≡◌, ◌+◌, ◌<◌, ◌≤◌, ◌⊎◌, inl, inr, Option, Some, subst, sym, ap, refl, ◌∙◌, min, arith}
use Rattle.std.proofs.lemmas.Bool.{cases_lt}
use Rattle.std.proofs.Math.Nat.{le-min, min-le_left, min-le_right, min-eq_left, min_comm}
use Rattle.nav_types.specs.declared.cells.Cell.{Cell}
use Rattle.nav_types.specs.declared.cells.Size.{Size}
use Rattle.nav_types.specs.declared.straights.Axis.{Axis}
use Rattle.nav_types.specs.declared.straights.Axis.TheVariants.{Row, Column}
use Rattle.goal_reach.specs.declared.rings.RingBlock.{RingBlock}
use Rattle.goal_reach.specs.declared.choices.Ranked.{Ranked}
use Rattle.goal_reach.specs.inner.Ranking.{with_rank, IsNoWorse, IsBest}
use Rattle.nav_types.specs.Cells.{IsInside, IsNotAfter}
use Rattle.nav_types.specs.Lines.{place_on, line_on, cell_on, side_along}
use Rattle.goal_reach.specs.inner.Rings.{IsInRun}
use Rattle.goal_reach.proofs.Choosing.{both_best, best_stays}

pub place_of_cell : (axis : Axis) (line place : ℕ) → place_on axis (cell_on axis line place) ≡ place
place_of_cell Row line place = refl
place_of_cell Column line place = refl

pub line_of_cell : (axis : Axis) (line place : ℕ) → line_on axis (cell_on axis line place) ≡ line
line_of_cell Row line place = refl
line_of_cell Column line place = refl

-- a cell is the one at its place of its line
cell_of_place : (axis : Axis) (cell : Cell) → cell ≡ cell_on axis (line_on axis cell) (place_on axis cell)
cell_of_place Row cell = refl
cell_of_place Column cell = refl

pub only_cell : (axis : Axis) (cell : Cell) (line place : ℕ) → line_on axis cell ≡ line → place_on axis cell ≡ place → cell ≡ cell_on axis line place
only_cell axis cell line place on at =
    subst (λ (l : ℕ). cell ≡ cell_on axis l place) on (subst (λ (p : ℕ). cell ≡ cell_on axis (line_on axis cell) p) at (cell_of_place axis cell))

-- a place in the map is less than the length of its line
pub inside_side : (axis : Axis) (line place : ℕ) (size : Size) → IsInside size (cell_on axis line place) → place < side_along axis size
inside_side Row line place size inside = inside.column
inside_side Column line place size inside = inside.row

-- the cell at a place of a run is one of the run
pub in_run : (axis : Axis) (line from end place : ℕ) → from ≤ place → place < end → IsInRun axis line from end (cell_on axis line place)
in_run axis line from end place first past =
    let at = place_of_cell axis line place in
    record {
      on_line = line_of_cell axis line place;
      first = subst (λ (p : ℕ). from ≤ p) (sym at) first;
      past = subst (λ (p : ℕ). p < end) (sym at) past;
    }

-- a run's cells before a place, with those at places up to a later one of which none is offered
run_skips : (rank : Cell → ℕ) (Offered : Cell → Type 0) (axis : Axis) (line from place later : ℕ) (best : Option Ranked) → place ≤ later
    → ((k : ℕ) → place ≤ k → k < later → Offered (cell_on axis line k) → ⊥)
    → IsBest rank (λ cell. Offered cell × IsInRun axis line from place cell) best
    → IsBest rank (λ cell. Offered cell × IsInRun axis line from later cell) best
run_skips rank Offered axis line from place later best order none was =
    best_stays rank (λ cell. Offered cell × IsInRun axis line from place cell) (λ cell. Offered cell × IsInRun axis line from later cell) best was
    (λ cell old. (let past = old.1.past in (old.0, record { on_line = old.1.on_line; first = old.1.first; past = omega arith })))
    (λ cell new. (
    let it = new.1 in
    elim (cases_lt (place_on axis cell) place) [
      | inl before ↦ (new.0, record { on_line = it.on_line; first = it.first; past = before })
      | inr at ↦ absurd (none (place_on axis cell) at it.past (subst Offered (only_cell axis cell line (place_on axis cell) it.on_line refl) new.0))
    ]))

-- no cell of the line is offered at a place from this one's up to the next
abbrev pub IsNoneBetween : (Cell → Type 0) → Axis → Cell → ℕ → Type 0
IsNoneBetween Offered axis cell next = (k : ℕ) → place_on axis cell ≤ k → k < next → Offered (cell_on axis (line_on axis cell) k) → ⊥

none_between : (Offered : Cell → Type 0) (axis : Axis) (line place next : ℕ) → IsNoneBetween Offered axis (cell_on axis line place) next
    → (k : ℕ) → place ≤ k → k < next → Offered (cell_on axis line k) → ⊥
none_between Offered Row line place next none = none
none_between Offered Column line place next none = none

-- a run goes on at the next place, or ends
pub run_goes_on : (rank : Cell → ℕ) (Offered : Cell → Type 0) (axis : Axis) (line from place end next later : ℕ) (cell : Cell) (best : Option Ranked)
    → place < end → cell ≡ cell_on axis line place → later ≡ min next end → place_on axis cell ≤ next → IsNoneBetween Offered axis cell next
    → IsBest rank (λ cell. Offered cell × IsInRun axis line from place cell) best
    → (place ≤ later) × (later ≤ end) × IsBest rank (λ cell. Offered cell × IsInRun axis line from later cell) best
run_goes_on rank Offered axis line from place end next later cell best more is nearer reached none was =
    let begun : place ≤ next = subst (λ (p : ℕ). p ≤ next) (ap (place_on axis) is ∙ place_of_cell axis line place) reached in
    let order : place ≤ later = subst (λ (p : ℕ). place ≤ p) (sym nearer) (le-min {a = next} {b = end} begun (omega arith)) in
    let last : later ≤ end = subst (λ (p : ℕ). p ≤ end) (sym nearer) (min-le_right next end) in
    let short : later ≤ next = subst (λ (p : ℕ). p ≤ next) (sym nearer) (min-le_left next end) in
    let empty = none_between Offered axis line place next (subst (λ (c : Cell). IsNoneBetween Offered axis c next) is none) in
    (order, last, run_skips rank Offered axis line from place later best order (λ k at before. empty k at (omega arith)) was)

-- the best before a place and of the stretch from there on
pub run_adds : (rank : Cell → ℕ) (Offered : Cell → Type 0) (axis : Axis) (line from place past : ℕ) (best next result : Option Ranked)
    → from ≤ place → place ≤ past
    → IsBest rank (λ cell. Offered cell × IsInRun axis line from place cell) best
    → IsBest rank (λ cell. Offered cell × IsInRun axis line place past cell) next
    → (result ≡ best) ⊎ (result ≡ next) → IsNoWorse result best → IsNoWorse result next
    → IsBest rank (λ cell. Offered cell × IsInRun axis line from past cell) result
run_adds rank Offered axis line from place past best next result order more was ranked one over_best over_next =
    both_best rank (λ cell. Offered cell × IsInRun axis line from place cell) (λ cell. Offered cell × IsInRun axis line place past cell)
    (λ cell. Offered cell × IsInRun axis line from past cell) best next result was ranked one over_best over_next
    (λ cell old. (let before = old.1.past in (old.0, record { on_line = old.1.on_line; first = old.1.first; past = omega arith })))
    (λ cell new. (let after = new.1.first in (new.0, record { on_line = new.1.on_line; first = omega arith; past = new.1.past })))
    (λ cell both. (
    let it = both.1 in
    elim (cases_lt (place_on axis cell) place) [
      | inl before ↦ inl (both.0, record { on_line = it.on_line; first = it.first; past = before })
      | inr at ↦ inr (both.0, record { on_line = it.on_line; first = at; past = it.past })
    ]))

-- the free cell that a run goes on at
pub next_is_free : (Free : Cell → Type 0) (axis : Axis) (line place end next later : ℕ) (size : Size) (cell : Cell) → cell ≡ cell_on axis line place
    → later ≡ min next end → later < end → ((k : ℕ) → place ≤ k → k < end → IsInside size (cell_on axis line k)) → place_on axis cell ≤ next
    → (next < side_along axis size → Free (cell_on axis (line_on axis cell) next)) → Free (cell_on axis line later)
next_is_free Free axis line place end next later size cell is nearer more inside reached free =
    let same : later ≡ next = elim (cases_lt next end) [
      | inl less ↦ nearer ∙ min-eq_left {n = next} {m = end} (omega arith)
      | inr over ↦ (let last = nearer ∙ min_comm next end ∙ min-eq_left {n = end} {m = next} over in absurd (omega arith))
    ] in
    let begun : place ≤ next = subst (λ (p : ℕ). p ≤ next) (ap (place_on axis) is ∙ place_of_cell axis line place) reached in
    let at : line_on axis cell ≡ line = ap (line_on axis) is ∙ line_of_cell axis line place in
    let here : IsInside size (cell_on axis line next) = subst (λ (k : ℕ). IsInside size (cell_on axis line k)) same (inside later (omega arith) more) in
    subst (λ (k : ℕ). Free (cell_on axis line k)) (sym same)
    (subst (λ (l : ℕ). Free (cell_on axis l next)) at (free (inside_side axis line next size here)))

-- a cell with its rank, from its parts
pub ranked_is : (rank : Cell → ℕ) (cell here : Cell) (n : ℕ) → cell ≡ here → n ≡ rank cell → record { cell = cell; rank = n } ≡ with_rank rank here
ranked_is rank cell here n is ranks = ap (λ (r : ℕ). record { cell = cell; rank = r }) ranks ∙ ap (with_rank rank) is

-- the best of one cell alone
pub alone_best : (rank : Cell → ℕ) (Offered : Cell → Type 0) (axis : Axis) (line place : ℕ) (best : Ranked)
    → best ≡ with_rank rank (cell_on axis line place) → Offered (cell_on axis line place)
    → IsBest rank (λ cell. Offered cell × IsInRun axis line place (place + 1) cell) (Some best)
alone_best rank Offered axis line place best is offered =
    let here = cell_on axis line place in
    let only : (cell : Cell) → IsInRun axis line place (place + 1) cell → cell ≡ here =
    λ cell it. (let first = it.first in let past = it.past in only_cell axis cell line place it.on_line (omega arith)) in
    subst (λ (b : Ranked). IsBest rank (λ cell. Offered cell × IsInRun axis line place (place + 1) cell) (Some b)) (sym is) (
      refl,
      record {
        within = (offered, in_run axis line place (place + 1) place (omega arith) (omega arith));
        least = λ other it. (let same = ap rank (only other it.1) in omega arith);
        first = λ other it _. subst (IsNotAfter here) (sym (only other it.1)) (inr (refl, omega arith));
      },
    )

-- a block with its first lines
abbrev pub up_to_line : RingBlock → ℕ → RingBlock
up_to_line block line = record { axis = block.axis; first_line = block.first_line; past_line = line; from = block.from; end = block.end }
