-- A list of which one item has been set.
use Rattle.std.proofs.Common.{ℕ, ◌≡◌, ◌≢◌, ◌<◌, ◌⊎◌, List, length, Some, set, inl, inr, sym, subst, ap, ◌∙◌, arith}
use Rattle.std.specs.List.{slice_get}
use Rattle.std.proofs.lemmas.Bool.{cases_eq}
use Rattle.std.proofs.lemmas.List.{length-set, get_or-set_same, get_or-set_other}
use Rattle.std.proofs.lemmas.Option.{same_Some, slice_get_within, slice_get-get_or, get_or_from_slice_get}

pub get_set_same : {A : Type 0} (xs : List A) (k : ℕ) (y : A) → k < length xs → slice_get (set xs k y) k ≡ Some y
get_set_same xs k y low =
    let wide : k < length (set xs k y) = omega (arith, length-set xs k y) in
    slice_get-get_or (set xs k y) k y wide ∙ ap (λ z. Some z) (get_or-set_same xs k y y low)

pub get_set_other : {A : Type 0} (xs : List A) (k j : ℕ) (y x : A) → j ≢ k → slice_get xs j ≡ Some x
    → slice_get (set xs k y) j ≡ Some x
get_set_other xs k j y x apart found =
    let low = slice_get_within xs j x found in
    let wide : j < length (set xs k y) = omega (arith, length-set xs k y) in
    slice_get-get_or (set xs k y) j x wide ∙ ap (λ z. Some z)
    (get_or-set_other xs k j y x apart ∙ get_or_from_slice_get xs j x x found)

pub get_set_cases : {A : Type 0} (xs : List A) (k j : ℕ) (y x : A) → slice_get (set xs k y) j ≡ Some x
    → ((j ≡ k) × (y ≡ x)) ⊎ ((j ≢ k) × (slice_get xs j ≡ Some x))
get_set_cases xs k j y x found =
    let wide = slice_get_within (set xs k y) j x found in
    let low : j < length xs = omega (arith, length-set xs k y, wide) in
    let value = get_or_from_slice_get (set xs k y) j x x found in
    elim (cases_eq j k) [
      | inl same ↦
          let within : k < length xs = omega (arith, low, same) in
          inl (
            same,
            same_Some y x (sym (get_set_same xs k y within)
                ∙ subst (λ (n : ℕ). slice_get (set xs k y) n ≡ Some x) same found),
          )
      | inr other ↦ inr (
        other,
        slice_get-get_or xs j x low
            ∙ ap (λ z. Some z) (sym (get_or-set_other xs k j y x other) ∙ value),
      )
    ]

-- two items at one place are one
pub one_item : {A : Type 0} (xs : List A) (k : ℕ) (a b : A) → slice_get xs k ≡ Some a → slice_get xs k ≡ Some b → a ≡ b
one_item xs k a b one two = same_Some a b (sym one ∙ two)
