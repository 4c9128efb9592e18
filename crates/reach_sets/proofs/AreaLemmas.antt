-- The numbers of a forest's trees are the areas of the regions.
use Rattle.std.proofs.Common.{◌≡◌, ℕ, ◌<◌, ◌≤◌, List, length, get_or, map, sum, cond, refl, sym, ap, ◌∙◌, subst, inl, inr, arith, option_map}
use Rattle.std.specs.Prelude.{Contains}
use Rattle.std.proofs.lemmas.List.{length-map}
use Rattle.std.proofs.lemmas.Option.{slice_get-map, get_or_from_slice_get}
use Rattle.std.proofs.lemmas.Bool.{cases_lt}
use Rattle.std.proofs.lemmas.Bool.Decides.{eqb_tells}
use Rattle.reach_sets.specs.declared.regions.RegionId.{RegionId}
use Rattle.reach_sets.specs.RegionOrder.{IsRegion, IsRegionBefore, place}
use Rattle.reach_sets.specs.AreaNumbers.{AreaNumbers, area_of, AreJoined, IsFirstRegion, AreAreas}
use Rattle.reach_sets.specs.inner.Forests.{HasParent, AreInOneTree, IsForestOf, IsRootNumber, AreRootNumbers}
use Rattle.nav_types.proofs.Items.{Contains-map, from_map, AllPairs-map}
use Rattle.reach_sets.proofs.ChainLemmas.{chained_on, chained_back, constant}
use Rattle.reach_sets.proofs.ForestLemmas.{to_parent}
use Rattle.reach_sets.proofs.RowLemmas.{region_from, place_inside, place_before, before_place, region_from-place, region_from-is_region, place-region_from}

-- the area of a region is the number at its place
pub area_of-region : (table : AreaNumbers) (id : RegionId) → 1 ≤ id.region → area_of table id ≡ get_or table.areas (place table.regions id) 0
area_of-region table id first =
    elim (eqb_tells id.region 0) [
      | inl zero ↦ absurd (omega (arith, zero.1))
      | inr one ↦ ap (λ b. cond b 0 (get_or table.areas (place table.regions id) 0)) one.0
    ]

-- what two places with one number have in common
same_root : (parents roots : List ℕ) (a b m n : ℕ) (x : IsRootNumber parents roots a m) (y : IsRootNumber parents roots b n) → m ≡ n → x.root ≡ y.root
same_root parents roots a b m n x y same =
    let place : x.place ≡ y.place = let p = x.number_is in let q = y.number_is in omega arith in
    sym (get_or_from_slice_get roots x.place x.root 0 x.at)
    ∙ ap (λ k. get_or roots k 0) place ∙ get_or_from_slice_get roots y.place y.root 0 y.at

-- a region's place and another place of its tree: the links join the regions there
tree_joined : (regions : List ℕ) (links : List (RegionId × RegionId)) (parents : List ℕ) → IsForestOf regions links parents → (id : RegionId) (k : ℕ) → IsRegion regions id → k < sum regions → AreInOneTree parents (place regions id) k → AreJoined links id (region_from 0 regions k)
tree_joined regions links parents forest id k is low same =
    let P : ℕ → Type 0 = λ y. AreInOneTree parents (place regions id) y in
    (forest.together id (region_from 0 regions k) is (region_from-is_region regions k low)).0
    (subst P (sym (place-region_from regions k low)) same)

-- regions that the links join have one number
joined_same : (regions : List ℕ) (links : List (RegionId × RegionId)) (parents numbers : List ℕ) (count : ℕ) → IsForestOf regions links parents → AreRootNumbers parents numbers count → length numbers ≡ length parents → (a b : RegionId) → IsRegion regions a → IsRegion regions b → AreJoined links a b → get_or numbers (place regions a) 0 ≡ get_or numbers (place regions b) 0
joined_same regions links parents numbers count forest numbered long a b a_is b_is joined =
    let number : ℕ → ℕ = λ k. get_or numbers k 0 in
    constant (HasParent parents) number (λ s t has. sym (numbered.same s (omega (arith, has.0))) ∙ ap number has.1)
    (place regions a) (place regions b) ((forest.together a b a_is b_is).1 joined)

-- regions with one number are joined by the links
same_joined : (regions : List ℕ) (links : List (RegionId × RegionId)) (parents numbers : List ℕ) (count : ℕ) → IsForestOf regions links parents → AreRootNumbers parents numbers count → length numbers ≡ length parents → (a b : RegionId) → IsRegion regions a → IsRegion regions b → get_or numbers (place regions a) 0 ≡ get_or numbers (place regions b) 0 → AreJoined links a b
same_joined regions links parents numbers count forest numbered long a b a_is b_is same =
    let i = place regions a in let j = place regions b in
    let each = forest.each in
    let i_low : i < length numbers = omega (arith, place_inside regions a a_is) in
    let j_low : j < length numbers = omega (arith, place_inside regions b b_is) in
    let x = numbered.numbers_are i i_low in let y = numbered.numbers_are j j_low in
    let root = same_root parents numbered.roots i j (get_or numbers i 0) (get_or numbers j 0) x y same in
    let P : ℕ → Type 0 = λ r. AreInOneTree parents i r in
    let tree : AreInOneTree parents i j =
    chained_on (HasParent parents) i y.root j (subst P root x.joined) (chained_back (HasParent parents) j y.root y.joined) in
    (forest.together a b a_is b_is).0 tree

-- the regions of the roots are the first regions of their areas
root_first : (regions : List ℕ) (links : List (RegionId × RegionId)) (parents numbers : List ℕ) (count : ℕ) → IsForestOf regions links parents → (numbered : AreRootNumbers parents numbers count) → length numbers ≡ length parents → (k : ℕ) → Contains numbered.roots k → IsFirstRegion regions links (region_from 0 regions k)
root_first regions links parents numbers count forest numbered long k has =
    let root = numbered.each_root k has in let each = forest.each in
    let at = region_from 0 regions k in
    let low : k < sum regions = omega (arith, root.0) in
    let is = region_from-is_region regions k low in
    let here = place-region_from regions k low in
    record {
      exists = is;
      earliest = λ other other_is joined before.
          let j = place regions other in
          let j_low : j < length numbers = omega (arith, place_inside regions other other_is) in
          let same : get_or numbers k 0 ≡ get_or numbers j 0 =
          ap (λ y. get_or numbers y 0) (sym here) ∙ joined_same regions links parents numbers count forest numbered long at other is other_is joined in
          let x = numbered.numbers_are k root.0 in let y = numbered.numbers_are j j_low in
          let one = same_root parents numbered.roots k j (get_or numbers k 0) (get_or numbers j 0) x y same in
          let own = x.own root.1 in let below = y.below in
          omega (arith, place_before regions other at other_is is before, here);
    }

-- the first region of an area is that of a root
first_root : (regions : List ℕ) (links : List (RegionId × RegionId)) (parents numbers : List ℕ) (count : ℕ) → IsForestOf regions links parents → (numbered : AreRootNumbers parents numbers count) → length numbers ≡ length parents → (id : RegionId) → IsFirstRegion regions links id → Contains (map (λ y. region_from 0 regions y) numbered.roots) id
first_root regions links parents numbers count forest numbered long id first =
    let at : ℕ → RegionId = λ y. region_from 0 regions y in
    let k = place regions id in let each = forest.each in
    let is = first.exists in
    let low : k < sum regions = place_inside regions id is in
    let inside : k < length parents = omega arith in
    let up = get_or parents k 0 in
    let no_later : up ≤ k = forest.forest k inside in
    let id_at = region_from-place regions id is in
    let P : RegionId → Type 0 = λ x. Contains (map at numbered.roots) x in
    elim (cases_lt up k) [
      | inl earlier ↦
          let up_low : up < sum regions = omega arith in
          let up_is = region_from-is_region regions up up_low in
          absurd (first.earliest (at up) up_is (tree_joined regions links parents forest id up is up_low (to_parent parents k inside))
          (before_place regions (at up) id up_is is (omega (arith, place-region_from regions up up_low))))
      | inr same ↦ subst P id_at (Contains-map at numbered.roots k (numbered.all_roots k (omega arith) (omega arith)))
    ]

pub areas_made : (regions : List ℕ) (links : List (RegionId × RegionId)) (parents numbers : List ℕ) (count : ℕ) → IsForestOf regions links parents → AreRootNumbers parents numbers count → length numbers ≡ length parents → AreAreas regions links (record { regions = regions; areas = numbers; count = count })
areas_made regions links parents numbers count forest numbered long =
    let table : AreaNumbers = record { regions = regions; areas = numbers; count = count } in
    let at : ℕ → RegionId = λ y. region_from 0 regions y in
    let roots = numbered.roots in
    let each = forest.each in
    let number : RegionId → ℕ = λ id. get_or numbers (place regions id) 0 in
    record {
      regions_are = refl;
      each = omega arith;
      together = λ a b a_is b_is.
          let x = area_of-region table a a_is.first in let y = area_of-region table b b_is.first in (
            (λ same. same_joined regions links parents numbers count forest numbered long a b a_is b_is (sym x ∙ same ∙ y)),
            (λ joined. x ∙ joined_same regions links parents numbers count forest numbered long a b a_is b_is joined ∙ sym y),
          );
      firsts = map at roots;
      are_firsts = record {
        each = λ id has.
            let from = from_map at roots id has in
            let P : RegionId → Type 0 = λ x. IsFirstRegion regions links x in
            subst P from.1.1 (root_first regions links parents numbers count forest numbered long from.0 from.1.0);
        all = λ id first. first_root regions links parents numbers count forest numbered long id first;
        rising = AllPairs-map ◌<◌ IsRegionBefore at roots numbered.rising (λ a b in_a in_b less.
            let a_low : a < sum regions = omega (arith, (numbered.each_root a in_a).0) in
            let b_low : b < sum regions = omega (arith, (numbered.each_root b in_b).0) in
            before_place regions (at a) (at b) (region_from-is_region regions a a_low) (region_from-is_region regions b b_low)
            (omega (arith, place-region_from regions a a_low, place-region_from regions b b_low)));
      };
      numbers = λ id is.
          let x = area_of-region table id is.first in
          let k = place regions id in
          let low : k < length numbers = omega (arith, place_inside regions id is) in
          let y = numbered.numbers_are k low in
          let below = y.below in
          record {
            place = y.place;
            first = at y.root;
            at = slice_get-map at roots y.place ∙ ap (λ o. option_map at o) y.at;
            joined = tree_joined regions links parents forest id y.root is (omega arith) y.joined;
            number_is = x ∙ y.number_is;
          };
      count_is = omega (arith, numbered.count_is, length-map roots at);
    }

-- the table that is built of a forest and its numbers
pub built : (regions seen : List ℕ) (links read : List (RegionId × RegionId)) (parents same numbers : List ℕ) (count : ℕ) → seen ≡ regions → read ≡ links → same ≡ parents → IsForestOf seen read parents → AreRootNumbers same numbers count → length numbers ≡ length same → AreAreas regions links (record { regions = seen; areas = numbers; count = count })
built regions seen links read parents same numbers count regions_are links_are parents_are forest numbered long =
    let P : List ℕ → Type 0 = λ rs. AreAreas rs links (record { regions = seen; areas = numbers; count = count }) in
    let Q : List (RegionId × RegionId) → Type 0 = λ ls. AreAreas seen ls (record { regions = seen; areas = numbers; count = count }) in
    let R : List ℕ → Type 0 = λ ps. AreRootNumbers ps numbers count × (length numbers ≡ length ps) in
    let moved = subst R parents_are (numbered, long) in
    subst P regions_are (subst Q links_are (areas_made seen read parents numbers count forest moved.0 moved.1))
