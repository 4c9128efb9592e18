-- The row of all regions: where each region stands, and which region stands where.
use Rattle.std.proofs.Common.{◌≡◌, ℕ, suc, zero, ◌<◌, ◌≤◌, ◌+◌, ◌-◌, ◌^◌, List, [], ◌∷◌, length, get_or, take, sum, refl, sym, ap, ◌∙◌, subst, inl, inr, arith}
use Rattle.std.specs.Prelude.{nat_lt, if◌then◌else◌}
use Rattle.std.proofs.lemmas.List.{take_all, take-take}
use Rattle.std.proofs.lemmas.List.Sums.{sum_by-cons, sum_by_more, sum_by_more_le, sum_by-take-le}
use Rattle.std.proofs.lemmas.Bool.{cases_lt, cases_order, lt-ltb, le-ltb}
use Rattle.reach_sets.specs.declared.regions.RegionId.{RegionId}
use Rattle.reach_sets.specs.RegionOrder.{IsRegion, IsRegionBefore, place}
use Rattle.reach_sets.specs.inner.RowStarts.{starts_from, steps_from, counts_between}

-- the region at a place of the row whose chunks are numbered from `chunk`
abbrev pub region_from : ℕ → List ℕ → ℕ → RegionId
region_from chunk [] at = record { chunk = chunk; region = 0 }
region_from chunk (x ∷ xs) at = if nat_lt at x then record { chunk = chunk; region = at + 1 } else region_from (chunk + 1) xs (at - x)

pub length-starts_from : (from : ℕ) (xs : List ℕ) → length (starts_from from xs) ≡ length xs + 1
length-starts_from from [] = omega arith
length-starts_from from (x ∷ xs) = omega (arith, length-starts_from (from + x) xs)

pub get_or-starts_from : (from : ℕ) (xs : List ℕ) (c : ℕ) → c ≤ length xs → get_or (starts_from from xs) c 0 ≡ from + sum (take c xs)
get_or-starts_from from [] zero low = omega arith
get_or-starts_from from [] (suc c) low = absurd (omega arith)
get_or-starts_from from (x ∷ xs) zero low = omega arith
get_or-starts_from from (x ∷ xs) (suc c) low =
    omega (arith, get_or-starts_from (from + x) xs c (omega arith), sum_by-cons (λ y. y) x (take c xs))

steps_from-starts_from : (low from : ℕ) (xs : List ℕ) → steps_from low (starts_from from xs) ≡ (from - low) ∷ xs
steps_from-starts_from low from [] = refl
steps_from-starts_from low from (x ∷ xs) =
    ap (λ ys. (from - low) ∷ ys) (steps_from-starts_from from (from + x) xs
    ∙ let e : (from + x) - from ≡ x = omega arith in ap (λ y. y ∷ xs) e)

pub counts_between-starts_from : (from : ℕ) (xs : List ℕ) → counts_between (starts_from from xs) ≡ xs
counts_between-starts_from from [] = refl
counts_between-starts_from from (x ∷ xs) =
    steps_from-starts_from from (from + x) xs
    ∙ let e : (from + x) - from ≡ x = omega arith in ap (λ y. y ∷ xs) e

pub row_made : (starts regions : List ℕ) → starts ≡ starts_from 0 regions → sum regions < 2 ^ 32 → (counts_between starts ≡ regions) × ((starts ≡ starts_from 0 (counts_between starts)) × (sum (counts_between starts) < 2 ^ 32))
row_made starts regions made few =
    let same : counts_between starts ≡ regions = ap counts_between made ∙ counts_between-starts_from 0 regions in
    let P : List ℕ → Type 0 = λ xs. (starts ≡ starts_from 0 xs) × (sum xs < 2 ^ 32) in
    (same, subst P (sym same) (made, few))

pub row_end : (starts regions : List ℕ) → starts ≡ starts_from 0 regions → (0 < length starts) × (get_or starts (length starts - 1) 0 ≡ sum regions)
row_end starts regions made =
    let long : length starts ≡ length regions + 1 = ap length made ∙ length-starts_from 0 regions in
    let last : length starts - 1 ≡ length regions = omega arith in (
      omega arith,
      ap (λ n. get_or starts n 0) last ∙ ap (λ xs. get_or xs (length regions) 0) made
          ∙ get_or-starts_from 0 regions (length regions) (omega arith)
          ∙ (let e : 0 + sum (take (length regions) regions) ≡ sum (take (length regions) regions) = omega arith in e)
          ∙ ap sum (take_all (length regions) regions (omega arith)),
    )

pub row_of : (starts regions : List ℕ) → starts ≡ starts_from 0 (counts_between starts) → counts_between starts ≡ regions → starts ≡ starts_from 0 regions
row_of starts regions made seen = made ∙ ap (λ xs. starts_from 0 xs) seen

pub place_inside : (regions : List ℕ) (id : RegionId) → IsRegion regions id → place regions id < sum regions
place_inside regions id is =
    let fits = sum_by_more_le (λ y. y) regions id.chunk 0 is.chunk in
    let first = is.first in let last = is.last in omega (arith, fits)

pub place_in_row : (starts regions : List ℕ) (id : RegionId) → starts ≡ starts_from 0 regions → IsRegion regions id → (id.chunk < length starts) × ((get_or starts id.chunk 0 + (id.region - 1) ≡ place regions id) × (place regions id < sum regions))
place_in_row starts regions id made is =
    let chunk = is.chunk in
    let long : length starts ≡ length regions + 1 = ap length made ∙ length-starts_from 0 regions in
    let at : get_or starts id.chunk 0 ≡ 0 + sum (take id.chunk regions) =
    ap (λ xs. get_or xs id.chunk 0) made ∙ get_or-starts_from 0 regions id.chunk (omega arith) in
    (omega arith, (omega arith, place_inside regions id is))

-- the place's chunk, and how many of the chunk's regions stand before it
pub record Spot (regions : List ℕ) (at : ℕ) : Type 0 where
  pub chunk : ℕ
  pub before : ℕ
  pub listed : chunk < length regions
  pub within : before < get_or regions chunk 0
  pub is : sum (take chunk regions) + before ≡ at

pub spot : (regions : List ℕ) (at : ℕ) → at < sum regions → Spot regions at
spot [] at inside = absurd (omega arith)
spot (x ∷ xs) at inside =
    let total = sum_by-cons (λ y. y) x xs in
    elim (cases_lt at x) [
      | inl here ↦ record { chunk = 0; before = at; listed = omega arith; within = here; is = omega arith }
      | inr later ↦
          let rest = spot xs (at - x) (omega (arith, total)) in
          let is = rest.is in let listed = rest.listed in
          record {
            chunk = suc rest.chunk;
            before = rest.before;
            listed = omega arith;
            within = rest.within;
            is = omega (arith, sum_by-cons (λ y. y) x (take rest.chunk xs));
          }
    ]

region_here : (base x : ℕ) (xs : List ℕ) (at : ℕ) → at < x → region_from base (x ∷ xs) at ≡ record { chunk = base; region = at + 1 }
region_here base x xs at low = rw (lt-ltb at x low) refl

region_later : (base x : ℕ) (xs : List ℕ) (at : ℕ) → x ≤ at → region_from base (x ∷ xs) at ≡ region_from (base + 1) xs (at - x)
region_later base x xs at high = rw (le-ltb at x high) refl

region_of_spot : (base : ℕ) (xs : List ℕ) (c n at : ℕ) → c < length xs → n < get_or xs c 0 → sum (take c xs) + n ≡ at → region_from base xs at ≡ record { chunk = base + c; region = n + 1 }
region_of_spot base [] c n at listed within is = absurd (omega arith)
region_of_spot base (x ∷ xs) zero n at listed within is =
    let e : n ≡ at = omega (arith, is) in
    let f : base ≡ base + 0 = omega arith in
    let P : ℕ → Type 0 = λ y. region_from base (x ∷ xs) at ≡ record { chunk = base; region = y + 1 } in
    let Q : ℕ → Type 0 = λ y. region_from base (x ∷ xs) at ≡ record { chunk = y; region = n + 1 } in
    subst Q f (subst P (sym e) (region_here base x xs at (omega arith)))
region_of_spot base (x ∷ xs) (suc c) n at listed within is =
    let total = sum_by-cons (λ y. y) x (take c xs) in
    let e : sum (take c xs) + n ≡ at - x = omega (arith, total, is) in
    let f : (base + 1) + c ≡ base + suc c = omega arith in
    let Q : ℕ → Type 0 = λ y. region_from (base + 1) xs (at - x) ≡ record { chunk = y; region = n + 1 } in
    region_later base x xs at (omega (arith, total, is))
    ∙ subst Q f (region_of_spot (base + 1) xs c n (at - x) (omega arith) within e)

-- the region at a spot
region_spot : (regions : List ℕ) (at : ℕ) (s : Spot regions at) → region_from 0 regions at ≡ record { chunk = s.chunk; region = s.before + 1 }
region_spot regions at s =
    let f : 0 + s.chunk ≡ s.chunk = omega arith in
    let Q : ℕ → Type 0 = λ y. region_from 0 regions at ≡ record { chunk = y; region = s.before + 1 } in
    subst Q f (region_of_spot 0 regions s.chunk s.before at s.listed s.within s.is)

pub same_region : (a b : RegionId) → a.chunk ≡ b.chunk → a.region ≡ b.region → a ≡ b
same_region a b chunks numbers =
    let made : ℕ → ℕ → RegionId = λ x y. record { chunk = x; region = y } in
    ap (λ x. made x a.region) chunks ∙ ap (λ y. made b.chunk y) numbers

-- the region at a region's place
pub region_from-place : (regions : List ℕ) (id : RegionId) → IsRegion regions id → region_from 0 regions (place regions id) ≡ id
region_from-place regions id is =
    let first = is.first in let last = is.last in
    let e : (id.region - 1) + 1 ≡ id.region = omega arith in
    let f : 0 + id.chunk ≡ id.chunk = omega arith in
    region_of_spot 0 regions id.chunk (id.region - 1) (place regions id) is.chunk (omega arith) refl
    ∙ same_region (record { chunk = 0 + id.chunk; region = (id.region - 1) + 1 }) id f e

pub region_from-is_region : (regions : List ℕ) (at : ℕ) → at < sum regions → IsRegion regions (region_from 0 regions at)
region_from-is_region regions at inside =
    let s = spot regions at inside in
    let listed = s.listed in let within = s.within in
    let P : RegionId → Type 0 = λ id. IsRegion regions id in
    subst P (sym (region_spot regions at s)) (record { chunk = listed; first = omega arith; last = omega arith })

pub place-region_from : (regions : List ℕ) (at : ℕ) → at < sum regions → place regions (region_from 0 regions at) ≡ at
place-region_from regions at inside =
    let s = spot regions at inside in
    let is = s.is in
    ap (λ id. place regions id) (region_spot regions at s)
    ∙ (let e : sum (take s.chunk regions) + ((s.before + 1) - 1) ≡ at = omega arith in e)

sum_until : (xs : List ℕ) (c d : ℕ) → c < d → c < length xs → sum (take c xs) + get_or xs c 0 ≤ sum (take d xs)
sum_until xs c d low listed =
    let more = sum_by_more (λ y. y) xs c 0 listed in
    let part = sum_by-take-le (λ y. y) (take d xs) (c + 1) in
    let same : sum (take (c + 1) (take d xs)) ≡ sum (take (c + 1) xs) = ap sum (take-take (c + 1) d xs (omega arith)) in
    omega (arith, more, part, same)

pub place_before : (regions : List ℕ) (a b : RegionId) → IsRegion regions a → IsRegion regions b → IsRegionBefore a b → place regions a < place regions b
place_before regions a b a_is b_is before =
    let a_first = a_is.first in let a_last = a_is.last in let b_first = b_is.first in
    elim before [
      | inl earlier ↦ omega (arith, sum_until regions a.chunk b.chunk earlier a_is.chunk)
      | inr here ↦ omega (arith, here.1, ap (λ c. sum (take c regions)) here.0)
    ]

pub before_place : (regions : List ℕ) (a b : RegionId) → IsRegion regions a → IsRegion regions b → place regions a < place regions b → IsRegionBefore a b
before_place regions a b a_is b_is before =
    let a_first = a_is.first in let b_first = b_is.first in let b_last = b_is.last in
    elim (cases_order a.chunk b.chunk) [
      | inl same ↦ inr (same, omega (arith, ap (λ c. sum (take c regions)) same))
      | inr apart ↦ elim apart [
        | inl earlier ↦ inl earlier
        | inr later ↦ absurd (omega (arith, sum_until regions b.chunk a.chunk later b_is.chunk))
      ]
    ]

pub same_place : (regions : List ℕ) (a b : RegionId) → IsRegion regions a → IsRegion regions b → place regions a ≡ place regions b → a ≡ b
same_place regions a b a_is b_is same =
    sym (region_from-place regions a a_is) ∙ ap (λ at. region_from 0 regions at) same ∙ region_from-place regions b b_is
