-- Buffers that are filled cell by cell.
use Rattle.std.proofs.Common.{ℕ, ◌≡◌, ◌+◌, ◌*◌, ◌<◌, ◌≤◌, inl, inr, List, length, get_or, sym, subst, ◌∙◌, arith}
use Rattle.std.specs.Prelude.{min, slice_set}
use Rattle.std.proofs.lemmas.Bool.{cases_eq, cases_lt}
use Rattle.std.proofs.lemmas.List.{get_or-set_same, get_or-set_other, drop-set-lt, length-set}
use Rattle.std.proofs.Math.Nat.{min-le_right, min-eq_left, min-eq_right}
use Rattle.nav_types.specs.declared.cells.Cell.{Cell}
use Rattle.nav_types.specs.declared.cells.Size.{Size}
use Rattle.nav_types.specs.Places.{cell_of}
use Rattle.flat_ways.specs.Steps.{AreTold}
use Rattle.flat_ways.specs.inner.Told.{AreToldUpTo}

-- what is below two numbers is below the lesser
below_min : (place a b : ℕ) → place < a → place < b → place < min a b
below_min place a b one other = elim (cases_lt a b) [
  | inl less ↦ let order : a ≤ b = omega (arith, less) in subst (λ (n : ℕ). place < n) (sym (min-eq_left order)) one
  | inr more ↦ let order : b ≤ a = omega (arith, more) in subst (λ (n : ℕ). place < n) (sym (min-eq_right order)) other
]

pub told_more : (Tells : Cell → ℕ → Type 0) (size : Size) (count number : ℕ) (before now : List ℕ) → count < length now → AreToldUpTo Tells size count before now
    → Tells (cell_of size count) number → AreToldUpTo Tells size (count + 1) before (slice_set now count number)
told_more Tells size count number before now within told here = record {
  long = length-set now count number ∙ told.long;
  told = λ place less. elim (cases_eq place count) [
    | inl last ↦ subst (λ (p : ℕ). Tells (cell_of size p) (get_or (slice_set now count number) p 0)) (sym last)
        (subst (λ (n : ℕ). Tells (cell_of size count) n) (sym (get_or-set_same now count number 0 within)) here)
    | inr other ↦ subst (λ (n : ℕ). Tells (cell_of size place) n) (sym (get_or-set_other now count place number 0 other)) (told.told place (omega (arith, less, other)))
  ];
  behind = λ place low. drop-set-lt place now count number (omega (arith, low)) ∙ told.behind place (omega (arith, low));
}

pub told_all : (Tells : Cell → ℕ → Type 0) (size : Size) (count : ℕ) (before now : List ℕ) → count ≡ min (length before) (size.w * size.h)
    → AreToldUpTo Tells size count before now → AreTold Tells size before now
told_all Tells size count before now is told = record {
  told = λ place within inside. told.told place (subst (λ (n : ℕ). place < n) (sym is) (below_min place (length before) (size.w * size.h) within inside));
  behind = told.behind (size.w * size.h) (subst (λ (n : ℕ). n ≤ size.w * size.h) (sym is) (min-le_right (length before) (size.w * size.h)));
}
