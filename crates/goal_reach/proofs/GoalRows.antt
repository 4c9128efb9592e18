-- The cells of a row that are the goal's and can be walked to.
use Rattle.std.proofs.Common.{ℕ, Bool, ◌≡◌, ◌<◌, ◌≤◌, min, inl, inr, sym, subst, arith, IsTrue, IsFalse}
use Rattle.std.proofs.lemmas.Bool.{both_ways, cases_lt}
use Rattle.std.proofs.Math.Nat.{le-min, min-le_left, min-le_right}
use Rattle.nav_types.specs.declared.cells.Cell.{Cell}
use Rattle.nav_types.specs.declared.straights.Axis.TheVariants.{Row}
use Rattle.nav_types.specs.Cells.{cell_at}
use Rattle.nav_types.specs.Lines.{IsFirstFree}
use Rattle.goal_reach.specs.inner.Rings.{IsInRun}

-- none of the row's cells from one place up to another is hit and reached
pub record IsEmptyRow (hit : Cell → Bool) (Reached : Cell → Type 0) (j from place : ℕ) : Type 0 where
  pub first : from ≤ place
  pub none : (cell : Cell) → cell.j ≡ j → from ≤ cell.i → cell.i < place → IsTrue (hit cell) → Reached cell → ⊥

-- nor is any up to the next free cell
pub empty_to_next : (passes hit : Cell → Bool) (Reached : Cell → Type 0) (j from end w i next later : ℕ) (cell : Cell)
    → ((c : Cell) → Reached c → IsTrue (passes c)) → cell ≡ cell_at i j → i < end → later ≡ min next end
    → IsFirstFree (λ k. passes (cell_at k cell.j)) cell.i w next
    → IsEmptyRow hit Reached j from i → (later ≤ end) × IsEmptyRow hit Reached j from later
empty_to_next passes hit Reached j from end w i next later cell free is less nearer next_is before =
    let found : IsFirstFree (λ k. passes (cell_at k j)) i w next =
    subst (λ (c : Cell). IsFirstFree (λ k. passes (cell_at k c.j)) c.i w next) is next_is in
    let reached = found.reached in
    let first = before.first in
    let short : later ≤ next = subst (λ (p : ℕ). p ≤ next) (sym nearer) (min-le_left next end) in
    let last : later ≤ end = subst (λ (p : ℕ). p ≤ end) (sym nearer) (min-le_right next end) in
    let order : i ≤ later = subst (λ (p : ℕ). i ≤ p) (sym nearer) (le-min {a = next} {b = end} reached (omega arith)) in (
      last,
      record {
        first = omega arith;
        none = λ c row begun past is_hit is_reached. elim (cases_lt c.i i) [
          | inl old ↦ before.none c row begun old is_hit is_reached
          | inr new ↦
              let blocked : IsFalse (passes c) =
              subst (λ (r : ℕ). IsFalse (passes (cell_at c.i r))) (sym row) (found.none_before c.i new (omega arith)) in
              both_ways (passes c) blocked (free c is_reached)
        ];
      },
    )

-- nor is any of the stretch there
pub empty_past : (hit : Cell → Bool) (Reached : Cell → Type 0) (j from i past : ℕ) → i ≤ past
    → ((cell : Cell) → IsInRun Row j i past cell → IsTrue (hit cell) → Reached cell → ⊥) → IsEmptyRow hit Reached j from i
    → IsEmptyRow hit Reached j from past
empty_past hit Reached j from i past order off before =
    let first = before.first in
    record {
      first = omega arith;
      none = λ c row begun last is_hit is_reached. elim (cases_lt c.i i) [
        | inl old ↦ before.none c row begun old is_hit is_reached
        | inr new ↦ off c (record { on_line = row; first = new; past = last }) is_hit is_reached
      ];
    }
