-- A forest over marked places, seen as one over all places.
use Rattle.std.proofs.Common.{◌≡◌, ℕ, false, ◌<◌, ◌≤◌, List, length, get_or, sum, sym, ap, ◌∙◌, subst, inl, inr, arith}
use Rattle.std.specs.Prelude.{All, IsTrue, if◌then◌else◌}
use Rattle.std.proofs.lemmas.Bool.{cases_lt, cases_Bool}
use Rattle.std.proofs.lemmas.List.Elements.{All-get_or, All-from_get_or}
use Rattle.std.proofs.lemmas.List.FromFn.{length-map-range_with_len, get_or-map-range_with_len}
use Rattle.reach_sets.specs.declared.regions.RegionId.{RegionId}
use Rattle.reach_sets.specs.RegionOrder.{IsRegion, place}
use Rattle.reach_sets.specs.AreaNumbers.{IsLink, AreJoined}
use Rattle.reach_sets.specs.inner.Forests.{IsForest, HasParent, AreInOneTree}
use Rattle.reach_sets.specs.inner.EndMarks.{is_marked, marked_before}
use Rattle.reach_sets.specs.inner.Linked.{HasMarks, AreEnds, ArePlaces, parent_at, all_parents, IsEndForest}
use Rattle.reach_sets.proofs.ChainLemmas.{chained_self, chained_once, chained_to}
use Rattle.reach_sets.proofs.LinkLemmas.{ByLinks, HoldLinks, together}
use Rattle.reach_sets.proofs.MarkLemmas.{before_below, nth_marked, nth_is, nth_of}
use Rattle.reach_sets.proofs.RowLemmas.{region_from, place_inside}

-- the place of each number
pub place_is : (words places : List ℕ) (n i : ℕ) → ArePlaces words places n → i < marked_before words n → get_or places i 0 ≡ nth_marked words n i
place_is words places n i are low =
    let is = nth_is words n i low in
    ap (λ k. get_or places k 0) (sym is.1.1) ∙ are.at (nth_marked words n i) is.0 is.1.0

-- the numbers are in the order of places
pub nth_rises : (words : List ℕ) (n p k : ℕ) → k < n → IsTrue (is_marked words k) → p ≤ marked_before words k → nth_marked words n p ≤ k
nth_rises words n p k low set_here before =
    let here = before_below words k n low set_here in
    let is = nth_is words n p (omega (arith, here, before)) in
    elim (cases_lt k (nth_marked words n p)) [
      | inl above ↦ absurd (omega (arith, before_below words k (nth_marked words n p) above set_here, is.1.1, before))
      | inr fine ↦ fine
    ]

module _ (words places parents : List ℕ) (n : ℕ) (are : ArePlaces words places n) (forest : IsForest parents) (each : length parents ≡ marked_before words n) where
  pub spread_long : length (all_parents words places parents n) ≡ n
  spread_long = length-map-range_with_len (parent_at words places parents) 0 n

  at_place : (k : ℕ) → k < n → get_or (all_parents words places parents n) k 0 ≡ parent_at words places parents k
  at_place k low = get_or-map-range_with_len (parent_at words places parents) 0 n k k 0 low (omega arith)

  -- a place without a mark is its own parent
  pub spread_other : (k : ℕ) → k < n → is_marked words k ≡ false → get_or (all_parents words places parents n) k 0 ≡ k
  spread_other k low unset =
      at_place k low ∙ ap (λ b. if b then get_or places (get_or parents (marked_before words k) 0) 0 else k) unset

  -- a marked place has the place of its number's parent
  pub spread_marked : (k : ℕ) → k < n → IsTrue (is_marked words k) → get_or (all_parents words places parents n) k 0 ≡ nth_marked words n (get_or parents (marked_before words k) 0)
  spread_marked k low set_here =
      let i = marked_before words k in
      let here = before_below words k n low set_here in
      let inside : i < length parents = omega (arith, here, each) in
      let up = forest i inside in
      at_place k low ∙ ap (λ b. if b then get_or places (get_or parents i 0) 0 else k) set_here
      ∙ place_is words places n (get_or parents i 0) are (omega (arith, here, up))

  pub spread_forest : IsForest (all_parents words places parents n)
  spread_forest k inside =
      let low : k < n = omega (arith, spread_long, inside) in
      elim (cases_Bool (is_marked words k)) [
        | inl set_here ↦
            let i = marked_before words k in
            let up = forest i (omega (arith, before_below words k n low set_here, each)) in
            omega (arith, spread_marked k low set_here, nth_rises words n (get_or parents i 0) k low set_here up)
        | inr unset ↦ omega (arith, spread_other k low unset)
      ]

-- the forest that the links make over the marked places is one over all regions
pub spread_made : (regions : List ℕ) (links : List (RegionId × RegionId)) (words places parents : List ℕ) → All (λ link. IsRegion regions link.0 × IsRegion regions link.1) links → AreEnds regions links words → ArePlaces words places (sum regions) → IsForest parents → length parents ≡ marked_before words (sum regions)
    → ByLinks (λ i. region_from 0 regions (nth_marked words (sum regions) i)) links parents → HoldLinks (λ id. marked_before words (place regions id)) links parents
    → IsEndForest regions links words places parents
spread_made regions links words places parents exist ends are forest each only all =
    let n = sum regions in
    let spread = all_parents words places parents n in
    let at : ℕ → RegionId = λ k. region_from 0 regions k in
    let nth : ℕ → ℕ = λ i. nth_marked words n i in
    let long = spread_long words places parents n are forest each in
    let none : RegionId × RegionId = (record { chunk = 0; region = 0 }, record { chunk = 0; region = 0 }) in
    let Exists : RegionId × RegionId → Type 0 = λ link. IsRegion regions link.0 × IsRegion regions link.1 in
    let Before : RegionId × RegionId → Type 0 = λ link. AreInOneTree parents (marked_before words (place regions link.0)) (marked_before words (place regions link.1)) in
    let Held : RegionId × RegionId → Type 0 = λ link. AreInOneTree spread (place regions link.0) (place regions link.1) in
    let Q : ℕ → ℕ → Type 0 = λ a b. AreInOneTree spread a b in
    let step : (i j : ℕ) → HasParent parents i j → AreInOneTree spread (nth i) (nth j) = λ i j has.
    let low : i < marked_before words n = omega (arith, has.0, each) in
    let is = nth_is words n i low in
    chained_once (HasParent spread) (nth i) (nth j)
    (omega (arith, long, is.0), spread_marked words places parents n are forest each (nth i) is.0 is.1.0 ∙ ap (λ k. nth (get_or parents k 0)) is.1.1 ∙ ap nth has.1) in
    let dense_only : ByLinks at links spread = λ k inside.
    let low : k < n = omega (arith, long, inside) in
    let P : ℕ → Type 0 = λ y. AreJoined links (at k) (at y) in
    elim (cases_Bool (is_marked words k)) [
      | inl set_here ↦
          let i = marked_before words k in
          let joined = only i (omega (arith, before_below words k n low set_here, each)) in
          let R : ℕ → Type 0 = λ y. AreJoined links (at y) (at (nth (get_or parents i 0))) in
          subst P (sym (spread_marked words places parents n are forest each k low set_here)) (subst R (nth_of words n k low set_here) joined)
      | inr unset ↦ subst P (sym (spread_other words places parents n are forest each k low unset)) (chained_self (IsLink links) (at k))
    ] in
    let dense_all : HoldLinks (place regions) links spread = All-from_get_or Held links none (λ i inside.
    let link = get_or links i none in
    let exists : Exists link = All-get_or Exists links i none inside exist in
    let marks : HasMarks regions words link = All-get_or (HasMarks regions words) links i none inside ends.all in
    let before : Before link = All-get_or Before links i none inside all in
    let a = place regions link.0 in let b = place regions link.1 in
    let tree : AreInOneTree spread (nth (marked_before words a)) (nth (marked_before words b)) =
    chained_to (HasParent parents) (HasParent spread) nth step (marked_before words a) (marked_before words b) before in
    let P : ℕ → Type 0 = λ y. AreInOneTree spread y (nth (marked_before words b)) in
    let R : ℕ → Type 0 = λ y. AreInOneTree spread a y in
    subst R (nth_of words n b (place_inside regions link.1 exists.1) marks.1)
    (subst P (nth_of words n a (place_inside regions link.0 exists.0) marks.0) tree)) in
    record {
      forest = forest;
      each = each;
      places_are = are;
      joins = record {
        forest = spread_forest words places parents n are forest each;
        each = long;
        together = together regions links spread dense_only dense_all;
      };
    }
