use Rattle.std.proofs.Common.{ℕ, ◌≢◌, ◌≡◌, Option, None, Some, IsSomeAnd, ◌↔◌, ap, inl, inr}
use Rattle.std.specs.Prelude.{IfNone, IfSome}
use Rattle.std.proofs.lemmas.Bool.{cases_eq}
use Rattle.nav_types.specs.declared.cells.Cell.{Cell}
use Rattle.nav_types.specs.declared.cells.Rect.{Rect}
use Rattle.nav_types.specs.Cells.{IsInRect}
use Rattle.nav_types.specs.Numbering.{number_of}
use Rattle.lane_rows.specs.Rows.{has_class}
use Rattle.grid_versions.proofs.NextLemmas.{whole_part}
use Rattle.grid_versions.proofs.painting.unlike_part.Goals as goal

-- a cell of both lies in what two rectangles have in common
in_both : (result : Option Rect) (found part : Rect) (cell : Cell)
    → IfSome result (λ (rect : Rect). (cell : Cell) → (IsInRect rect cell ↔ (IsInRect found cell × IsInRect part cell)))
    → IfNone result ((cell : Cell) → IsInRect found cell → ¬ IsInRect part cell)
    → IsInRect found cell → IsInRect part cell → IsSomeAnd result (λ (rect : Rect). IsInRect rect cell)
in_both None found part cell some none here there = none cell here there
in_both (Some rect) found part cell some none here there = (some cell).1 (here, there)

pub returns-then-not-is_look-clause-part : goal.returns-then-not-is_look-clause-part
returns-then-not-is_look-clause-part c = whole_part c.args.part c.requires.part.columns c.requires.part.rows

pub returns-then-not-is_look-clause-like : goal.returns-then-not-is_look-clause-like
returns-then-not-is_look-clause-like c k cell inside out = absurd (out inside)

pub returns-in_default-clause-like : goal.returns-in_default-clause-like
returns-in_default-clause-like c k cell inside out = elim (cases_eq (number_of c.args.patch.now cell) (number_of c.args.most.now cell)) [
  | inl same ↦ ap (λ n. has_class k n) same
  | inr apart ↦ absurd (c.in_default.ensures.held cell inside apart)
]

pub returns-clause-like : goal.returns-clause-like
returns-clause-like c k cell inside out = elim (cases_eq (number_of c.args.patch.now cell) (number_of c.args.most.now cell)) [
  | inl same ↦ ap (λ n. has_class k n) same
  | inr apart ↦
      absurd (out (in_both c.intersection.result c.in-Some.found c.args.part cell c.intersection.ensures.cells c.intersection.ensures.none
      (c.in-Some.ensures.held cell inside apart) inside))
]
