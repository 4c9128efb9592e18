-- Where all standing shapes fit, they still do after an edit whose shape fits.
use Rattle.std.proofs.Common.{◌≡◌, ◌⊎◌, ℕ, ℤ, Bool, true, false, cond, Option, None, Some, IsSomeAnd, sym, subst, inl, inr, ◌∙◌}
use Rattle.std.proofs.lemmas.Option.{same_Some}
use Rattle.std.specs.Cmp.{nat_cmp_total}
use Rattle.std.specs.FinMap as map
use Rattle.std.specs.Ordering.{nat_cmp}
use Rattle.nav_types.specs.declared.cells.Size.{Size}
use Rattle.obstruction_shapes.specs.declared.shapes.Obstruction.{Obstruction}
use Rattle.obstruction_shapes.specs.Shapes.{FitsMap, moved_to}
use Rattle.obstruction_store.specs.Standing.{Standing, AllFit, moved, with_placed}

-- what is found after an insert is the new value or was there before
found_after_insert : {X : Type 0} (here : Bool) (value found : X) (before : Option X)
    → cond here (Some value) before ≡ Some found → (value ≡ found) ⊎ (before ≡ Some found)
found_after_insert true value found before is = inl (same_Some value found is)
found_after_insert false value found before is = inr is

-- what is found after a removal was there before
found_after_remove : {X : Type 0} (here : Bool) (found : X) (before : Option X)
    → cond here None before ≡ Some found → before ≡ Some found
found_after_remove true found before is = absurd (cc)
found_after_remove false found before is = is

pub AllFit-empty : (size : Size) → AllFit size map.empty
AllFit-empty size = record {
  each = λ number found is.
      let none = map.get-empty {X = Obstruction} nat_cmp number in absurd (cc);
}

pub AllFit-insert : (size : Size) (standing : Standing) (number : ℕ) (obstruction : Obstruction)
    → AllFit size standing → FitsMap size obstruction.shape → AllFit size (map.insert standing number obstruction)
AllFit-insert size standing number obstruction all fits = record {
  each = λ other found is.
      elim (found_after_insert _ obstruction found _ (sym (map.get-insert nat_cmp_total standing number obstruction other) ∙ is)) [
        | inl same ↦ subst (λ (o : Obstruction). FitsMap size o.shape) same fits
        | inr before ↦ all.each other found before
      ];
}

pub AllFit-remove : (size : Size) (standing : Standing) (number : ℕ) → AllFit size standing
    → AllFit size (map.remove standing number)
AllFit-remove size standing number all = record {
  each = λ other found is.
      all.each other found (found_after_remove _ found _ (sym (map.get-remove nat_cmp_total standing number other) ∙ is));
}

AllFit-with_placed : (size : Size) (standing : Standing) (number : ℕ) (x z : ℤ) (old : Option Obstruction)
    → AllFit size standing → IsSomeAnd old (λ obstruction. FitsMap size (moved_to obstruction.shape x z))
    → AllFit size (with_placed standing number x z old)
AllFit-with_placed size standing number x z None all fits = absurd fits
AllFit-with_placed size standing number x z (Some old) all fits =
    AllFit-insert size standing number (record old { shape = moved_to old.shape x z }) all fits

pub AllFit-moved : (size : Size) (standing : Standing) (number : ℕ) (x z : ℤ) → AllFit size standing
    → IsSomeAnd (map.get standing number) (λ obstruction. FitsMap size (moved_to obstruction.shape x z))
    → AllFit size (moved standing number x z)
AllFit-moved size standing number x z all fits = AllFit-with_placed size standing number x z (map.get standing number) all fits
