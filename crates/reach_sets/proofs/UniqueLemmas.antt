-- Regions and links have one table of areas.
use Rattle.std.proofs.Common.{◌≡◌, ℕ, ◌+◌, ◌<◌, ◌⊎◌, List, length, get_or, sum, sym, ap, ◌∙◌, subst, inl, inr, arith, Some}
use Rattle.std.proofs.lemmas.List.{ext_get_or}
use Rattle.std.proofs.lemmas.Bool.{cases_order}
use Rattle.reach_sets.specs.declared.regions.RegionId.{RegionId}
use Rattle.reach_sets.specs.RegionOrder.{IsRegion, IsRegionBefore, place}
use Rattle.reach_sets.specs.AreaNumbers.{AreaNumbers, area_of, IsLink, AreJoined, IsFirstRegion, AreFirstRegions, HasAreaNumber, AreAreas}
use Rattle.nav_types.proofs.Items.{Contains-from_slice_get, same_ordered, same_place}
use Rattle.reach_sets.proofs.ChainLemmas.{chained_on, chained_back}
use Rattle.reach_sets.proofs.RowLemmas.{region_from, same_region, region_from-is_region, place-region_from}
use Rattle.reach_sets.proofs.AreaLemmas.{area_of-region}

-- of two regions only one comes before the other
IsRegionBefore-asym : (a b : RegionId) → IsRegionBefore a b → IsRegionBefore b a → ⊥
IsRegionBefore-asym a b ahead behind = elim ahead [
  | inl c ↦ elim behind [ inl d ↦ omega arith | inr d ↦ omega (arith, d.0) ]
  | inr c ↦ elim behind [ inl d ↦ omega (arith, c.0) | inr d ↦ omega (arith, c.1, d.1) ]
]

-- two regions are one, or one comes before the other
pub IsRegionBefore-cases : (a b : RegionId) → (a ≡ b) ⊎ (IsRegionBefore a b ⊎ IsRegionBefore b a)
IsRegionBefore-cases a b = elim (cases_order a.chunk b.chunk) [
  | inl chunk ↦ elim (cases_order a.region b.region) [
    | inl number ↦ inl (same_region a b chunk number)
    | inr apart ↦ elim apart [ inl low ↦ inr (inl (inr (chunk, low))) | inr high ↦ inr (inr (inr (sym chunk, high))) ]
  ]
  | inr apart ↦ elim apart [ inl low ↦ inr (inl (inl low)) | inr high ↦ inr (inr (inl high)) ]
]

-- an area has one first region
one_first : (regions : List ℕ) (links : List (RegionId × RegionId)) (a b : RegionId) → IsFirstRegion regions links a → IsFirstRegion regions links b → AreJoined links a b → a ≡ b
one_first regions links a b a_first b_first joined =
    elim (IsRegionBefore-cases a b) [
      | inl same ↦ same
      | inr apart ↦ elim apart [
        | inl ahead ↦ absurd (b_first.earliest a a_first.exists (chained_back (IsLink links) a b joined) ahead)
        | inr behind ↦ absurd (a_first.earliest b b_first.exists joined behind)
      ]
    ]

-- a region has one number
one_number : (regions : List ℕ) (links : List (RegionId × RegionId)) (firsts : List RegionId) (id : RegionId) (m n : ℕ) → AreFirstRegions regions links firsts → HasAreaNumber links firsts id m → HasAreaNumber links firsts id n → m ≡ n
one_number regions links firsts id m n are one other =
    let i_first : IsFirstRegion regions links one.first = are.each one.first (Contains-from_slice_get firsts one.place one.first one.at) in
    let j_first : IsFirstRegion regions links other.first = are.each other.first (Contains-from_slice_get firsts other.place other.first other.at) in
    let same : one.first ≡ other.first =
    one_first regions links one.first other.first i_first j_first
    (chained_on (IsLink links) one.first id other.first (chained_back (IsLink links) id one.first one.joined) other.joined) in
    let place : one.place ≡ other.place =
    same_place IsRegionBefore IsRegionBefore-asym firsts are.rising one.place other.place one.first one.at (other.at ∙ ap (λ (id : RegionId). Some id) (sym same)) in
    one.number_is ∙ ap (λ k. k + 1) place ∙ sym other.number_is

pub one_table : (regions : List ℕ) (links : List (RegionId × RegionId)) (one other : AreaNumbers) → AreAreas regions links one → AreAreas regions links other → one ≡ other
one_table regions links one other x y =
    let firsts : x.firsts ≡ y.firsts =
    same_ordered IsRegionBefore IsRegionBefore-asym x.firsts y.firsts x.are_firsts.rising y.are_firsts.rising
    (λ z has. y.are_firsts.all z (x.are_firsts.each z has)) (λ z has. x.are_firsts.all z (y.are_firsts.each z has)) in
    let F : List RegionId → Type 0 = λ fs. (id : RegionId) → IsRegion regions id → HasAreaNumber links fs id (area_of other id) in
    let numbers = let back = sym firsts in subst F back y.numbers in
    let same_area : (id : RegionId) → IsRegion regions id → area_of one id ≡ area_of other id = λ id is.
    one_number regions links x.firsts id (area_of one id) (area_of other id) x.are_firsts (x.numbers id is) (numbers id is) in
    let chunks : one.regions ≡ other.regions = x.regions_are ∙ sym y.regions_are in
    let areas : one.areas ≡ other.areas =
    ext_get_or 0 one.areas other.areas (x.each ∙ sym y.each) (λ k low.
    let inside : k < sum regions = omega (arith, x.each) in
    let id = region_from 0 regions k in
    let is = region_from-is_region regions k inside in
    let at = place-region_from regions k inside in
    let one_at : place one.regions id ≡ k = ap (λ rs. place rs id) x.regions_are ∙ at in
    let other_at : place other.regions id ≡ k = ap (λ rs. place rs id) y.regions_are ∙ at in
    ap (λ n. get_or one.areas n 0) (sym one_at) ∙ sym (area_of-region one id is.first)
    ∙ same_area id is ∙ area_of-region other id is.first ∙ ap (λ n. get_or other.areas n 0) other_at) in
    let count : one.count ≡ other.count = x.count_is ∙ ap length firsts ∙ sym y.count_is in
    let made : List ℕ → List ℕ → ℕ → AreaNumbers = λ r a c. record { regions = r; areas = a; count = c } in
    ap (λ r. made r one.areas one.count) chunks ∙ ap (λ a. made other.regions a one.count) areas
    ∙ ap (λ n. made other.regions other.areas n) count
