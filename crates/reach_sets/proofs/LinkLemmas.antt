-- A forest over regions while the links are read. `at` gives the region of a place of the forest, `of` a region's place.
use Rattle.std.proofs.Common.{◌≡◌, ℕ, ◌+◌, ◌<◌, ◌⊎◌, List, length, get_or, take, refl, sym, ap, ◌∙◌, subst, inl, inr}
use Rattle.std.specs.Prelude.{Contains, All, ◌↔◌}
use Rattle.std.proofs.lemmas.List.Elements.{All-contains, All-weaker, All-more, Contains-get_or}
use Rattle.reach_sets.specs.declared.regions.RegionId.{RegionId}
use Rattle.reach_sets.specs.RegionOrder.{IsRegion, place}
use Rattle.reach_sets.specs.AreaNumbers.{IsLink, AreJoined}
use Rattle.reach_sets.specs.inner.Forests.{HasParent, AreInOneTree, JoinsTrees}
use Rattle.reach_sets.proofs.ChainLemmas.{chained_once, chained_to}
use Rattle.reach_sets.proofs.RowLemmas.{region_from, region_from-place}

-- the regions of the link have places of their own
abbrev pub HasPlaces : (ℕ → RegionId) → (RegionId → ℕ) → RegionId × RegionId → Type 0
HasPlaces at of link = (at (of link.0) ≡ link.0) × (at (of link.1) ≡ link.1)

-- the links join each place's region to its parent's
abbrev pub ByLinks : (ℕ → RegionId) → List (RegionId × RegionId) → List ℕ → Type 0
ByLinks at links parents = (k : ℕ) → k < length parents → AreJoined links (at k) (at (get_or parents k 0))

by_links_more : (at : ℕ → RegionId) (of : RegionId → ℕ) (links : List (RegionId × RegionId)) (old new : List ℕ) (link : RegionId × RegionId) → HasPlaces at of link → Contains links link → ByLinks at links old → JoinsTrees old (of link.0) (of link.1) new → ByLinks at links new
by_links_more at of links old new link has_places known so_far joins k inside =
    let Near : ℕ → ℕ → Type 0 = λ s t. HasParent old s t ⊎ ((s ≡ of link.0) × (t ≡ of link.1)) in
    let each : (s t : ℕ) → Near s t → AreJoined links (at s) (at t) = λ s t near. elim near [
      | inl has ↦ let P : ℕ → Type 0 = λ y. AreJoined links (at s) (at y) in subst P has.1 (so_far s has.0)
      | inr ends ↦
          let P : RegionId → Type 0 = λ y. AreJoined links y (at t) in
          let Q : RegionId → Type 0 = λ y. AreJoined links link.0 y in
          subst P (sym (ap at ends.0 ∙ has_places.0))
          (subst Q (sym (ap at ends.1 ∙ has_places.1)) (chained_once (IsLink links) link.0 link.1 known))
    ] in
    chained_to Near (IsLink links) at each k (get_or new k 0) (joins.only k (get_or new k 0) (inside, refl))

-- the places of each link are of one tree
abbrev pub HoldLinks : (RegionId → ℕ) → List (RegionId × RegionId) → List ℕ → Type 0
HoldLinks of links parents = All (λ link. AreInOneTree parents (of link.0) (of link.1)) links

hold_links_kept : (of : RegionId → ℕ) (links : List (RegionId × RegionId)) (old new : List ℕ) → ((s t : ℕ) → AreInOneTree old s t → AreInOneTree new s t) → HoldLinks of links old → HoldLinks of links new
hold_links_kept of links old new kept held =
    let P : RegionId × RegionId → Type 0 = λ link. AreInOneTree old (of link.0) (of link.1) in
    let Q : RegionId × RegionId → Type 0 = λ link. AreInOneTree new (of link.0) (of link.1) in
    All-weaker P Q (λ link same. kept (of link.0) (of link.1) same) links held

-- one more link is read
pub links_more : (at : ℕ → RegionId) (of : RegionId → ℕ) (links : List (RegionId × RegionId)) (i : ℕ) (none : RegionId × RegionId) (old new : List ℕ) (a b : ℕ) → i < length links → HasPlaces at of (get_or links i none) → ByLinks at links old → HoldLinks of (take i links) old → a ≡ of (get_or links i none).0 → b ≡ of (get_or links i none).1 → JoinsTrees old a b new → ByLinks at links new × HoldLinks of (take (i + 1) links) new
links_more at of links i none old new a b inside has_places only all a_is b_is joins =
    let link = get_or links i none in
    let Held : RegionId × RegionId → Type 0 = λ link. AreInOneTree new (of link.0) (of link.1) in
    let J : ℕ → ℕ → Type 0 = λ x y. JoinsTrees old x y new in
    let step : JoinsTrees old (of link.0) (of link.1) new =
    let P : ℕ → Type 0 = λ x. J x (of link.1) in
    let Q : ℕ → Type 0 = λ y. J a y in
    subst P a_is (subst Q b_is joins) in (
      by_links_more at of links old new link has_places (Contains-get_or links i none inside) only step,
      All-more Held links i none inside (hold_links_kept of (take i links) old new step.kept all) step.joined,
    )

-- two regions' places are of one tree exactly where the links join the regions
pub together : (regions : List ℕ) (links : List (RegionId × RegionId)) (parents : List ℕ) → ByLinks (region_from 0 regions) links parents → HoldLinks (place regions) links parents → (a b : RegionId) → IsRegion regions a → IsRegion regions b → AreInOneTree parents (place regions a) (place regions b) ↔ AreJoined links a b
together regions links parents only all a b a_is b_is =
    let at : ℕ → RegionId = λ y. region_from 0 regions y in
    let Q : RegionId → Type 0 = λ id. AreJoined links id (at (place regions b)) in
    let R : RegionId → Type 0 = λ id. AreJoined links a id in
    let Held : RegionId × RegionId → Type 0 = λ link. AreInOneTree parents (place regions link.0) (place regions link.1) in (
      (λ same. subst R (region_from-place regions b b_is) (subst Q (region_from-place regions a a_is)
          (chained_to (HasParent parents) (IsLink links) at
          (λ x y has. let P : ℕ → Type 0 = λ z. AreJoined links (at x) (at z) in subst P has.1 (only x has.0))
          (place regions a) (place regions b) same))),
      (λ joined. chained_to (IsLink links) (HasParent parents) (λ id. place regions id)
          (λ x y link. All-contains Held links (x, y) all link) a b joined),
    )
