-- The numbers of regions, given in order: a root has the next one, and another region that of the one it is linked to.
use Rattle.std.proofs.Common.{ℕ, ◌≡◌, ◌<◌, ◌≤◌, ◌+◌, ◌-◌, ◌∙◌, List, [], ◌∷◌, ◌++◌, length, length-append, get_or, map, set, ap, refl, inl, inr, sym, subst, arith, Some}
use Rattle.std.specs.List.{slice_get}
use Rattle.std.specs.Prelude.{slice_index}
use Rattle.std.proofs.lemmas.Bool.{cases_lt}
use Rattle.std.proofs.lemmas.List.{get_or-map, get_or-set_same, get_or-set_other, length-map, length-set}
use Rattle.std.proofs.lemmas.List.Quantifiers.{all_pairs_push}
use Rattle.std.proofs.lemmas.Option.{slice_get-get_or, same_Some, slice_get_within}
use Rattle.nav_types.specs.declared.cells.Cell.{Cell}
use Rattle.nav_types.specs.Cells.{IsBefore}
use Rattle.nav_types.proofs.Items.{slice_get-push_last, slice_get-push_cases}
use Rattle.chunk_regions.specs.inner.Joining.{LeadDown, IsNumberAmong, AreBounded, AreGrown, AreNumbers, number_in}
use Rattle.chunk_regions.proofs.AmongLemmas.{among_longer, among_self, among_through, pair_rises}

slice_get-none : (k : ℕ) (first : Cell) → slice_get [] k ≡ Some first → ⊥
slice_get-none k first at = let inside = slice_get_within [] k first at in omega arith

-- before the first region
pub AreNumbers-none : (firsts : List Cell) (links : List ℕ) → AreNumbers firsts links links [] 0
AreNumbers-none firsts links = record {
  each = refl;
  rest = λ place more. refl;
  few = omega arith;
  within = λ place less. absurd (omega arith);
  shared = λ place less. absurd (omega arith);
  found = λ number first at. absurd (slice_get-none number first at);
  placed = λ passes place first linked rising less at. absurd (omega arith);
  rising = λ rising k l d less inside. absurd (omega arith);
}

-- the number that is put at a place, and the others
put_here : (numbers : List ℕ) (place k n : ℕ) → place < length numbers → k ≡ place → slice_index (set numbers place n) k ≡ n
put_here numbers place k n inside same = ap (λ i. slice_index (set numbers place n) i) same ∙ get_or-set_same numbers place n 0 inside

put_apart : (numbers : List ℕ) (place k n : ℕ) → (k ≡ place → ⊥) → slice_index (set numbers place n) k ≡ slice_index numbers k
put_apart numbers place k n apart = get_or-set_other numbers place k n 0 apart

-- the next region is linked to none before it: it has the next number
pub AreNumbers-root : (firsts : List Cell) (links numbers : List ℕ) (roots : List Cell) (place : ℕ) (cell : Cell) → LeadDown links → place < length links
    → slice_get firsts place ≡ Some cell → slice_index links place ≡ place + 1 → AreNumbers firsts links numbers roots place
    → AreNumbers firsts links (set numbers place (length roots + 1)) (roots ++ cell ∷ []) (place + 1)
AreNumbers-root firsts links numbers roots place cell down inside found own was =
    let n = length roots + 1 in
    let new = set numbers place n in
    let longer : length (roots ++ cell ∷ []) ≡ length roots + 1 = length-append roots (cell ∷ []) in
    let each = was.each in
    let few = was.few in
    let within : place < length numbers = omega arith in
    record {
      each = length-set numbers place n ∙ was.each;
      rest = λ k more. put_apart numbers place k n (λ same. omega arith) ∙ was.rest k (omega arith);
      few = omega arith;
      within = λ k less. elim (cases_lt k place) [
        | inl below ↦
            let same = put_apart numbers place k n (λ same. omega arith) in
            let old = was.within k below in
            let least = old.0 in
            let most = old.1 in
            (omega arith, omega arith)
        | inr last ↦ let same = put_here numbers place k n within (omega arith) in (omega arith, omega arith)
      ];
      shared = λ k less. elim (cases_lt k place) [
        | inl below ↦
            let to = down k (omega arith) in
            let least = to.0 in
            let most = to.1 in
            put_apart numbers place (slice_index links k - 1) n (λ same. omega arith) ∙ was.shared k below
            ∙ sym (put_apart numbers place k n (λ same. omega arith))
        | inr last ↦
            let here : k ≡ place = omega arith in
            let link = ap (λ i. slice_index links i) here in
            let back : slice_index links k - 1 ≡ k = omega arith in
            ap (λ i. slice_index new i) back
      ];
      found = λ number first at. elim (slice_get-push_cases roots cell number first at) [
        | inl older ↦
            let old = was.found number first older in
            let below = old.1.0 in
            (old.0, (omega arith, (old.1.1.0, put_apart numbers place old.0 n (λ same. omega arith) ∙ old.1.1.1)))
        | inr newest ↦
            let count = newest.0 in (
              place,
              (
                omega arith,
                (found ∙ ap (λ (z : Cell). Some z) newest.1, put_here numbers place place n within refl ∙ ap (λ k. k + 1) (sym count)),
              ),
            )
      ];
      placed = λ passes k first linked rising less at. elim (cases_lt k place) [
        | inl below ↦
            subst (λ m. IsNumberAmong passes (roots ++ cell ∷ []) first m) (sym (put_apart numbers place k n (λ same. omega arith)))
            (among_longer passes roots cell first (slice_index numbers k) (was.placed passes k first linked rising below at))
        | inr last ↦
            let here : k ≡ place = omega arith in
            let one : cell ≡ first = same_Some cell first (sym found ∙ ap (λ i. slice_get firsts i) (sym here) ∙ at) in
            subst (λ m. IsNumberAmong passes (roots ++ cell ∷ []) first m) (sym (put_here numbers place k n within here))
            (among_self passes (roots ++ cell ∷ []) (length roots) first (slice_get-push_last roots cell ∙ ap (λ (z : Cell). Some z) one))
      ];
      rising = λ rising. all_pairs_push IsBefore roots cell (was.rising rising) (λ k d less.
          let old = was.found k (get_or roots k d) (slice_get-get_or roots k d less) in
          pair_rises firsts old.0 place (get_or roots k d) cell rising old.1.1.0 found old.1.0);
    }

-- the next region is linked to one before it: it has that one's number
pub AreNumbers-link : (firsts : List Cell) (links numbers : List ℕ) (roots : List Cell) (place n : ℕ) → LeadDown links → length links ≡ length firsts → place < length links
    → slice_index links place ≤ place → n ≡ slice_index numbers (slice_index links place - 1) → AreNumbers firsts links numbers roots place
    → AreNumbers firsts links (set numbers place n) roots (place + 1)
AreNumbers-link firsts links numbers roots place n down all inside earlier is was =
    let new = set numbers place n in
    let each = was.each in
    let few = was.few in
    let within : place < length numbers = omega arith in
    let own = down place inside in
    let some = own.0 in
    let link = slice_index links place in
    let to = was.within (link - 1) (omega arith) in
    let to_least = to.0 in
    let to_most = to.1 in
    record {
      each = length-set numbers place n ∙ was.each;
      rest = λ k more. put_apart numbers place k n (λ same. omega arith) ∙ was.rest k (omega arith);
      few = omega arith;
      within = λ k less. elim (cases_lt k place) [
        | inl below ↦
            let same = put_apart numbers place k n (λ same. omega arith) in
            let old = was.within k below in
            let least = old.0 in
            let most = old.1 in
            (omega arith, omega arith)
        | inr last ↦ let same = put_here numbers place k n within (omega arith) in (omega arith, omega arith)
      ];
      shared = λ k less. elim (cases_lt k place) [
        | inl below ↦
            let on = down k (omega arith) in
            let least = on.0 in
            let most = on.1 in
            put_apart numbers place (slice_index links k - 1) n (λ same. omega arith) ∙ was.shared k below
            ∙ sym (put_apart numbers place k n (λ same. omega arith))
        | inr last ↦
            let here : k ≡ place = omega arith in
            let same = ap (λ i. slice_index links i) here in
            put_apart numbers place (slice_index links k - 1) n (λ one. omega arith)
            ∙ ap (λ i. slice_index numbers (i - 1)) same ∙ sym is ∙ sym (put_here numbers place k n within here)
      ];
      found = λ number first at.
          let old = was.found number first at in
          let below = old.1.0 in
          (old.0, (omega arith, (old.1.1.0, put_apart numbers place old.0 n (λ same. omega arith) ∙ old.1.1.1)));
      placed = λ passes k first linked rising less at. elim (cases_lt k place) [
        | inl below ↦
            subst (λ m. IsNumberAmong passes roots first m) (sym (put_apart numbers place k n (λ same. omega arith)))
            (was.placed passes k first linked rising below at)
        | inr last ↦
            let here : k ≡ place = omega arith in
            let on = linked k first at in
            let value = on.value in
            let same = ap (λ i. slice_index links i) here in
            let back : on.place ≡ link - 1 = omega arith in
            subst (λ m. IsNumberAmong passes roots first m) (ap (λ i. slice_index numbers i) back ∙ sym is ∙ sym (put_here numbers place k n within here))
            (among_through passes roots first on.first (slice_index numbers on.place) on.joined on.early
            (was.placed passes on.place on.first linked rising (omega arith) on.found))
      ];
      rising = was.rising;
    }

-- the numbers of all spans are within those of the numbered regions
pub AreBounded-numbered : (regions : List ℕ) (firsts : List Cell) (links numbers : List ℕ) (roots : List Cell) → AreGrown regions firsts links
    → AreNumbers firsts links numbers roots (length links) → AreBounded (map (number_in numbers) regions) roots
AreBounded-numbered regions firsts links numbers roots grown named =
    let few = named.few in
    let each = grown.each in
    let before = grown.bounded.few in
    let count : length (map (number_in numbers) regions) ≡ length regions = length-map regions (number_in numbers) in
    record {
      few = omega arith;
      within = λ k inside.
          let here : k < length regions = omega arith in
          let was = grown.bounded.within k here in
          let least = was.0 in
          let most = was.1 in
          let new = get_or-map (number_in numbers) regions k 0 0 here in
          let is = named.within (slice_index regions k - 1) (omega arith) in
          subst (λ n. (1 ≤ n) × (n ≤ length roots)) (sym new) is;
    }
