-- Rectangles without their first and last lines that have not changed.
use Rattle.std.proofs.Common.{◌≡◌, ◌≢◌, ℕ, ◌+◌, ◌<◌, ◌≤◌, List, [], ◌∷◌, ◌++◌, length, get_or, inl, inr, ap, ◌∙◌, subst, ⊎_elim, arith}
use Rattle.std.proofs.lemmas.Bool.{cases_lt, cases_eq}
use Rattle.nav_types.specs.declared.cells.Rect.{Rect}
use Rattle.nav_types.specs.Cells.{IsInRect, cell_at}
use Rattle.nav_types.proofs.Items.{all_front, all_last}
use Rattle.class_planes.specs.Planes.{IsOutside}
use Rattle.class_planes.specs.inner.Lines.{LineTable, line_at}
use Rattle.class_planes.specs.inner.Runs.{bit_in}
use Rattle.class_planes.specs.inner.StopLines.{AreSameIn}
use Rattle.class_planes.proofs.UpdateLemmas.{in_rect_or_not}

-- the same lines and one more
pub same_more : (before lines : LineTable) (rect : Rect) (from n : ℕ) → AreSameIn before lines rect from n
    → AreSameIn before lines rect n (n + 1) → AreSameIn before lines rect from (n + 1)
same_more before lines rect from n so_far one m i low below west east = elim (cases_lt m n) [
  | inl early ↦ so_far m i low early west east
  | inr late ↦ one m i late below west east
]

pub more_same : (before lines : LineTable) (rect : Rect) (n to : ℕ) → AreSameIn before lines rect (n + 1) to
    → AreSameIn before lines rect n (n + 1) → AreSameIn before lines rect n to
more_same before lines rect n to so_far one m i low below west east = elim (cases_lt n m) [
  | inl late ↦ so_far m i (omega (arith, late)) below west east
  | inr early ↦ one m i low (omega (arith, early)) west east
]

-- outside of the tight rectangles so far and of those that are still to come the lines are as before
abbrev pub AreSameBut : ℕ → LineTable → LineTable → List Rect → ℕ → List Rect → Type 0
AreSameBut count before lines rects from tight = (n i : ℕ) → n ≤ count → IsOutside tight (cell_at i n)
    → ((k : ℕ) (d : Rect) → from ≤ k → k < length rects → IsInRect (get_or rects k d) (cell_at i n) → ⊥)
    → bit_in (line_at before n) i ≡ bit_in (line_at lines n) i

pub tight_more : (count : ℕ) (before lines : LineTable) (rects : List Rect) (from : ℕ) (rect changed : Rect)
    (old new : List Rect) → ((d : Rect) → get_or rects from d ≡ rect) → new ≡ old ++ changed ∷ []
    → changed.i0 ≡ rect.i0 → changed.i1 ≡ rect.i1 → AreSameIn before lines rect rect.j0 changed.j0
    → AreSameIn before lines rect (changed.j1 + 1) (rect.j1 + 1) → AreSameBut count before lines rects from old
    → AreSameBut count before lines rects (from + 1) new
tight_more count before lines rects from rect changed old new is more i0 i1 south north so_far n i within out rest =
    let outside : IsOutside (old ++ changed ∷ []) (cell_at i n) =
    subst (λ (rs : List Rect). IsOutside rs (cell_at i n)) more out in
    let front = all_front (λ (r : Rect). IsInRect r (cell_at i n) → ⊥) old changed outside in
    let not_changed = all_last (λ (r : Rect). IsInRect r (cell_at i n) → ⊥) old changed outside in
    in_rect_or_not rect (cell_at i n)
    (λ here.
    let west : rect.i0 ≤ i = here.west in
    let east : i ≤ rect.i1 = here.east in
    let low : rect.j0 ≤ n = here.south in
    let high : n ≤ rect.j1 = here.north in
    ⊎_elim
    (λ (before_all : n < changed.j0). south n i low before_all west east)
    (λ (from_first : changed.j0 ≤ n). ⊎_elim
    (λ (after_all : changed.j1 < n). north n i (omega (arith, after_all)) (omega (arith, high)) west east)
    (λ (to_last : n ≤ changed.j1). absurd (not_changed (record {
      west = omega (arith, i0, west);
      east = omega (arith, i1, east);
      south = from_first;
      north = to_last;
    })))
    (cases_lt changed.j1 n))
    (cases_lt n changed.j0))
    (λ not_here. so_far n i within front (λ k d least below at. ⊎_elim
    (λ (same : k ≡ from). not_here (subst (λ (r : Rect). IsInRect r (cell_at i n))
    (ap (λ p. get_or rects p d) same ∙ is d) at))
    (λ (later : k ≢ from). rest k d (omega (arith, least, later)) below at)
    (cases_eq k from)))
