-- The areas of the marked places, and those of all.
use Rattle.std.proofs.Common.{◌≡◌, ◌≢◌, ℕ, zero, suc, false, ◌+◌, ◌-◌, ◌/◌, ◌^◌, ◌<◌, ◌≤◌, List, [], ◌∷◌, ◌++◌, length, get_or, sum, refl, sym, ap, ◌∙◌, subst, inl, inr, arith}
use Rattle.std.specs.Prelude.{IsTrue, if◌then◌else◌}
use Rattle.std.proofs.lemmas.Bool.{cases_Bool}
use Rattle.std.proofs.lemmas.Bool.Decides.{eqb_tells}
use Rattle.std.proofs.lemmas.List.FromFn.{length-map-range_with_len, get_or-map-range_with_len, map-range_with_len_more}
use Rattle.reach_sets.specs.declared.regions.RegionId.{RegionId}
use Rattle.reach_sets.specs.AreaNumbers.{AreAreas}
use Rattle.reach_sets.specs.inner.Forests.{IsForest, AreRootNumbers}
use Rattle.reach_sets.specs.inner.EndMarks.{is_marked, marked_before}
use Rattle.reach_sets.specs.inner.Linked.{ArePlaces, all_parents, IsEndForest, children_before, AreChildCounts, AreEndAreas, area_at, all_areas, FitMarks}
use Rattle.reach_sets.proofs.MarkLemmas.{before_le, before_below, before_grows, before_marked, before_other, nth_marked, nth_is, nth_of}
use Rattle.reach_sets.proofs.SpreadLemmas.{place_is, nth_rises, spread_long, spread_other, spread_marked, spread_forest}
use Rattle.reach_sets.proofs.NumberLemmas.{none_numbered, root_turn, child_turn}
use Rattle.reach_sets.proofs.AreaLemmas.{areas_made}

pub children_root : (parents : List ℕ) (k n : ℕ) → n ≡ k + 1 → get_or parents k 0 ≡ k → children_before parents n ≡ children_before parents k
children_root parents k n next root =
    let e : n ≡ suc k = omega arith in
    elim (eqb_tells (get_or parents k 0) k) [
      | inl same ↦ let no = ap {B = ℕ} (λ b. if b then 0 else 1) same.0 in omega (arith, ap (children_before parents) e, no)
      | inr other ↦ absurd (other.1 root)
    ]

pub children_child : (parents : List ℕ) (k n : ℕ) → n ≡ k + 1 → get_or parents k 0 ≢ k → children_before parents n ≡ children_before parents k + 1
children_child parents k n next apart =
    let e : n ≡ suc k = omega arith in
    elim (eqb_tells (get_or parents k 0) k) [
      | inl same ↦ absurd (apart same.1)
      | inr other ↦ let one = ap {B = ℕ} (λ b. if b then 0 else 1) other.0 in omega (arith, ap (children_before parents) e, one)
    ]

pub children_le : (parents : List ℕ) (k : ℕ) → children_before parents k ≤ k
children_le parents zero = omega arith
children_le parents (suc k) = elim (eqb_tells (get_or parents k 0) k) [
  | inl same ↦ omega (arith, children_root parents k (suc k) (omega arith) same.1, children_le parents k)
  | inr other ↦ omega (arith, children_child parents k (suc k) (omega arith) other.1, children_le parents k)
]

module _ (words places parents areas joined : List ℕ) (n : ℕ) (are : ArePlaces words places n) (forest : IsForest parents) (each : length parents ≡ marked_before words n)
    (counted : AreChildCounts parents joined) (numbered : AreEndAreas places parents areas) where
  -- the area of a marked place, and of another
  at_marked : (k : ℕ) → IsTrue (is_marked words k) → area_at words areas joined k ≡ get_or areas (marked_before words k) 0
  at_marked k set_here = ap (λ b. if b then get_or areas (marked_before words k) 0 else k + 1 - get_or joined (marked_before words k) 0) set_here

  at_other : (k : ℕ) → is_marked words k ≡ false → area_at words areas joined k ≡ k + 1 - get_or joined (marked_before words k) 0
  at_other k unset = ap (λ b. if b then get_or areas (marked_before words k) 0 else k + 1 - get_or joined (marked_before words k) 0) unset

  -- the areas of the first places
  numbered_to : (k : ℕ) → k ≤ n → AreRootNumbers (all_parents words places parents n) (all_areas words areas joined k) (k - children_before parents (marked_before words k))
  numbered_to zero low = none_numbered (all_parents words places parents n)
  numbered_to (suc k) low =
      let spread = all_parents words places parents n in
      let f : ℕ → ℕ = area_at words areas joined in
      let so_far = numbered_to k (omega arith) in
      let here : k < n = omega arith in
      let i = marked_before words k in
      let c = children_before parents i in
      let few : c ≤ k = omega (arith, children_le parents i, before_le words k) in
      let next : suc k ≡ k + 1 = omega arith in
      let fresh : ℕ = suc k - children_before parents (marked_before words (suc k)) in
      let longer : all_areas words areas joined (suc k) ≡ all_areas words areas joined k ++ f k ∷ [] =
      ap (λ m. all_areas words areas joined m) next ∙ map-range_with_len_more f 0 k k (omega arith) in
      let inside : k < length spread = omega (arith, spread_long words places parents n are forest each) in
      let is_forest = spread_forest words places parents n are forest each in
      let long : length (all_areas words areas joined k) ≡ k = length-map-range_with_len f 0 k in
      let root_here : get_or spread k 0 ≡ k → f k ≡ (k - c) + 1 → fresh ≡ (k - c) + 1 → AreRootNumbers spread (all_areas words areas joined (suc k)) fresh =
      λ root number is_fresh.
      (root_turn spread (all_areas words areas joined k) (all_areas words areas joined (suc k)) (k - c) fresh k is_forest inside long (omega arith) so_far root
      (longer ∙ ap (λ x. all_areas words areas joined k ++ x ∷ []) number) is_fresh).1.1 in
      elim (cases_Bool (is_marked words k)) [
        | inr unset ↦
            let same : marked_before words (suc k) ≡ i = ap (marked_before words) next ∙ before_other words k unset in
            let count : get_or joined i 0 ≡ c = counted.counts i (omega (arith, counted.each, each, before_grows words k n (omega arith))) in
            root_here (spread_other words places parents n are forest each k here unset)
            (omega (arith, at_other k unset, count, few))
            (omega (arith, ap (children_before parents) same, few))
        | inl set_here ↦
            let more : marked_before words (suc k) ≡ i + 1 = ap (marked_before words) next ∙ before_marked words k set_here in
            let low_i : i < marked_before words n = before_below words k n here set_here in
            let has_area : i < length areas = omega (arith, low_i, each, numbered.each) in
            let up = get_or parents i 0 in
            let upper : up ≤ i = forest i (omega (arith, low_i, each)) in
            elim (eqb_tells up i) [
              | inl own ↦
                  let at_i : get_or places i 0 ≡ k = are.at k here set_here in
                  let back : get_or spread k 0 ≡ k =
                  spread_marked words places parents n are forest each k here set_here ∙ ap (λ m. nth_marked words n m) own.1
                  ∙ nth_of words n k here set_here in
                  root_here back
                  (omega (arith, at_marked k set_here, numbered.root i has_area own.1, at_i, few))
                  (omega (arith, ap (children_before parents) more, children_root parents i (i + 1) refl own.1, few))
              | inr other ↦
                  let q = nth_marked words n up in
                  let q_is = nth_is words n up (omega (arith, low_i, upper)) in
                  let parent : get_or spread k 0 ≡ q = spread_marked words places parents n are forest each k here set_here in
                  let apart : q ≢ k = λ same. other.1 (sym q_is.1.1 ∙ ap (marked_before words) same) in
                  let no_later = nth_rises words n up k here set_here upper in
                  let earlier : q < k = omega (arith, no_later, apart) in
                  let read : get_or (all_areas words areas joined k) q 0 ≡ get_or areas up 0 =
                  get_or-map-range_with_len f 0 k q q 0 earlier (omega arith) ∙ at_marked q q_is.1.0 ∙ ap (λ m. get_or areas m 0) q_is.1.1 in
                  (child_turn spread (all_areas words areas joined k) (all_areas words areas joined (suc k)) (k - c) fresh k (f k) is_forest inside long (omega arith) so_far
                  (λ same. apart (sym parent ∙ same))
                  (at_marked k set_here ∙ numbered.child i has_area other.1 ∙ sym read ∙ ap (λ m. get_or (all_areas words areas joined k) m 0) (sym parent))
                  longer
                  (omega (arith, ap (children_before parents) more, children_child parents i (i + 1) refl other.1, few))).1.1
            ]
      ]

  pub all_numbered : AreRootNumbers (all_parents words places parents n) (all_areas words areas joined n) (n - children_before parents (marked_before words n))
  all_numbered = numbered_to n (omega arith)

-- the areas of all regions
pub linked_built : (regions : List ℕ) (links : List (RegionId × RegionId)) (words places parents areas joined : List ℕ) (count : ℕ) → IsEndForest regions links words places parents → AreChildCounts parents joined → AreEndAreas places parents areas
    → count ≡ sum regions - children_before parents (marked_before words (sum regions))
    → AreAreas regions links (record { regions = regions; areas = all_areas words areas joined (sum regions); count = count })
linked_built regions links words places parents areas joined count made counted numbered is_count =
    let n = sum regions in
    let all = all_areas words areas joined n in
    let spread = all_parents words places parents n in
    let R : ℕ → Type 0 = λ c. AreRootNumbers spread all c in
    areas_made regions links spread all count made.joins
    (subst R (sym is_count) (all_numbered words places parents areas joined n made.places_are made.forest made.each counted numbered))
    (length-map-range_with_len (area_at words areas joined) 0 n ∙ sym (spread_long words places parents n made.places_are made.forest made.each))

-- ---- what a table reads

in_row : (now words areas joined : List ℕ) (n k : ℕ) → all_areas words areas joined n ≡ now → k < length now → (k < n) × (get_or now k 0 ≡ area_at words areas joined k)
in_row now words areas joined n k seen inside =
    let f : ℕ → ℕ = area_at words areas joined in
    let low : k < n = omega (arith, ap (λ (l : List ℕ). length l) seen, length-map-range_with_len f 0 n, inside) in
    (low, ap (λ l. get_or l k 0) (sym seen) ∙ get_or-map-range_with_len f 0 n k k 0 low (omega arith))

pub row_wide : (now words areas joined : List ℕ) (n k : ℕ) → FitMarks words areas joined n → all_areas words areas joined n ≡ now → k < length now → (k < n) × (k / 64 < length words)
row_wide now words areas joined n k fit seen inside =
    let low = (in_row now words areas joined n k seen inside).0 in (low, omega (arith, low, fit.wide))

pub read_marked : (now words areas joined : List ℕ) (n k before : ℕ) → FitMarks words areas joined n → all_areas words areas joined n ≡ now → k < length now → IsTrue (is_marked words k) → before ≡ marked_before words k
    → (before < length areas) × (get_or areas before 0 ≡ get_or now k 0)
read_marked now words areas joined n k before fit seen inside marked is =
    let row = in_row now words areas joined n k seen inside in (
      omega (arith, is, fit.areas_each, before_below words k n row.0 marked),
      ap (λ i. get_or areas i 0) is ∙ sym (ap (λ b. if b then get_or areas (marked_before words k) 0 else k + 1 - get_or joined (marked_before words k) 0) marked) ∙ sym row.1,
    )

pub read_other : (now words areas joined : List ℕ) (n k before : ℕ) → FitMarks words areas joined n → all_areas words areas joined n ≡ now → k < length now → is_marked words k ≡ false → before ≡ marked_before words k
    → (before < length joined) × ((get_or joined before 0 ≤ k) × (k - get_or joined before 0 + 1 ≡ get_or now k 0))
read_other now words areas joined n k before fit seen inside unset is =
    let row = in_row now words areas joined n k seen inside in
    let low : before < length joined = omega (arith, is, fit.joined_each, before_grows words k n (omega (arith, row.0))) in
    let few : get_or joined before 0 ≤ k = omega (arith, fit.few before low, is, before_le words k) in
    let plain = ap (λ b. if b then get_or areas (marked_before words k) 0 else k + 1 - get_or joined (marked_before words k) 0) unset in
    (low, (few, omega (arith, few, ap (λ i. get_or joined i 0) is, plain, row.1)))

-- ---- what is made for a table

pub places_fit : (words places : List ℕ) (n : ℕ) → ArePlaces words places n → (k : ℕ) → k < length places → (k ≤ get_or places k 0) × (get_or places k 0 < n)
places_fit words places n are k inside =
    let low : k < marked_before words n = omega (arith, are.each, inside) in
    let is = nth_is words n k low in
    let here = place_is words places n k are low in
    (omega (arith, here, is.1.1, before_le words (nth_marked words n k)), omega (arith, here, is.0))

pub last_count : (parents joined : List ℕ) (n : ℕ) → AreChildCounts parents joined → length parents ≤ n → (0 < length joined) × ((get_or joined (length joined - 1) 0 ≡ children_before parents (length parents)) × (get_or joined (length joined - 1) 0 ≤ n))
last_count parents joined n counted few =
    let last : length joined - 1 ≡ length parents = omega (arith, counted.each) in
    let is : get_or joined (length joined - 1) 0 ≡ children_before parents (length parents) =
    counted.counts (length joined - 1) (omega (arith, counted.each)) ∙ ap (children_before parents) last in
    (omega (arith, counted.each), (is, omega (arith, is, children_le parents (length parents), few)))

pub fit_made : (words places parents areas joined : List ℕ) (regions : List ℕ) (links : List (RegionId × RegionId)) → sum regions < 2 ^ 32 → length words ≡ sum regions / 64 + 1 → IsEndForest regions links words places parents → AreChildCounts parents joined → AreEndAreas places parents areas
    → FitMarks words areas joined (sum regions)
fit_made words places parents areas joined regions links small wide made counted numbered =
    record {
      small = small;
      wide = wide;
      areas_each = omega (arith, numbered.each, made.each);
      joined_each = omega (arith, counted.each, made.each);
      few = λ k low. omega (arith, counted.counts k low, children_le parents k);
    }

-- the areas of all regions, as they are returned
pub linked_table : (regions : List ℕ) (links : List (RegionId × RegionId)) (words places parents areas joined seen_places seen_parents : List ℕ) (n count : ℕ) → n ≡ sum regions → seen_places ≡ places → seen_parents ≡ parents
    → IsEndForest regions links words places parents → AreChildCounts seen_parents joined → AreEndAreas seen_places seen_parents areas → count ≡ n - get_or joined (length joined - 1) 0
    → AreAreas regions links (record { regions = regions; areas = all_areas words areas joined n; count = count })
linked_table regions links words places parents areas joined seen_places seen_parents n count n_is places_are parents_are made counted numbered is =
    let P : ℕ → Type 0 = λ m. AreAreas regions links (record { regions = regions; areas = all_areas words areas joined m; count = count }) in
    let C : List ℕ → Type 0 = λ qs. AreChildCounts qs joined in
    let counted_here : AreChildCounts parents joined = subst C parents_are counted in
    let A : List ℕ → Type 0 = λ ps. AreEndAreas ps parents areas in
    let B : List ℕ → Type 0 = λ qs. AreEndAreas seen_places qs areas in
    let numbered_here : AreEndAreas places parents areas = subst A places_are (subst B parents_are numbered) in
    let last = last_count parents joined (length parents) counted_here (omega arith) in
    subst P (sym n_is) (linked_built regions links words places parents areas joined count made counted_here numbered_here
    (omega (arith, is, n_is, last.1.0, ap (children_before parents) made.each)))
