-- Which region's number a cell has, by the first cells of the regions and their links.
use Rattle.std.proofs.Common.{ℕ, zero, suc, ◌≡◌, ◌<◌, ◌≤◌, ◌+◌, ◌-◌, ◌∙◌, Bool, List, [], ◌∷◌, ◌++◌, get_or, ap, refl, inl, inr, sym, subst, arith, Some}
use Rattle.std.specs.List.{AllPairs, slice_get}
use Rattle.std.specs.Prelude.{slice_index}
use Rattle.std.proofs.lemmas.Bool.{cases_lt}
use Rattle.std.proofs.lemmas.Option.{slice_get_within, get_or_from_slice_get, same_Some}
use Rattle.nav_types.specs.declared.cells.Cell.{Cell}
use Rattle.nav_types.specs.Cells.{IsBefore}
use Rattle.nav_types.specs.Regions.{JoinedStraight}
use Rattle.chunk_regions.specs.inner.Joining.{follow, IsNumberAmong, AreLinked}
use Rattle.nav_types.proofs.CellOrder.{IsBefore-cases, IsBefore-irrefl, IsBefore-trans}
use Rattle.nav_types.proofs.Walking.{JoinedStraight-refl, JoinedStraight-trans}
use Rattle.nav_types.proofs.Items.{slice_get-append_left}

pub pair_rises : (firsts : List Cell) (k l : ℕ) (a b : Cell) → AllPairs IsBefore firsts → slice_get firsts k ≡ Some a → slice_get firsts l ≡ Some b → k < l → IsBefore a b
pair_rises firsts k l a b rising found_a found_b less =
    let inside = slice_get_within firsts l b found_b in
    let both = rising k l a less inside in
    subst (λ (z : Cell). IsBefore z b) (get_or_from_slice_get firsts k a a found_a) (subst (λ (z : Cell). IsBefore (get_or firsts k a) z) (get_or_from_slice_get firsts l b a found_b) both)

-- a first cell has its own region's number
pub among_self : (passes : Cell → Bool) (firsts : List Cell) (place : ℕ) (first : Cell) → slice_get firsts place ≡ Some first
    → IsNumberAmong passes firsts first (place + 1)
among_self passes firsts place first found = record {
  place = place;
  first = first;
  found = found;
  joined = JoinedStraight-refl passes first;
  early = IsBefore-irrefl first;
  value = refl;
}

-- more first cells change nothing
pub among_longer : (passes : Cell → Bool) (firsts : List Cell) (more cell : Cell) (n : ℕ) → IsNumberAmong passes firsts cell n
    → IsNumberAmong passes (firsts ++ more ∷ []) cell n
among_longer passes firsts more cell n was = record {
  place = was.place;
  first = was.first;
  found = slice_get-append_left firsts (more ∷ []) was.place was.first was.found;
  joined = was.joined;
  early = was.early;
  value = was.value;
}

-- a cell has the number of a cell that it is joined to and does not come before
pub among_through : (passes : Cell → Bool) (firsts : List Cell) (cell other : Cell) (n : ℕ) → JoinedStraight passes cell other → (IsBefore cell other → ⊥)
    → IsNumberAmong passes firsts other n → IsNumberAmong passes firsts cell n
among_through passes firsts cell other n joined late was = record {
  place = was.place;
  first = was.first;
  found = was.found;
  joined = JoinedStraight-trans passes cell other was.first joined was.joined;
  early = λ before. elim (IsBefore-cases other cell) [
    | inl same ↦ was.early (subst (λ (z : Cell). IsBefore z was.first) (sym same) before)
    | inr order ↦ elim order [
      | inl less ↦ was.early (IsBefore-trans other cell was.first less before)
      | inr more ↦ late more
    ]
  ];
  value = was.value;
}

-- a cell of a later region has the number of an earlier one that it is joined to
pub among_earlier : (passes : Cell → Bool) (firsts : List Cell) (cell other : Cell) (earlier later : ℕ) → AllPairs IsBefore firsts → earlier ≤ later
    → IsNumberAmong passes firsts cell later → IsNumberAmong passes firsts other earlier → JoinedStraight passes cell other
    → IsNumberAmong passes firsts cell earlier
among_earlier passes firsts cell other earlier later rising order own to joined =
    let own_value = own.value in
    let to_value = to.value in
    record {
      place = to.place;
      first = to.first;
      found = to.found;
      joined = JoinedStraight-trans passes cell other to.first joined to.joined;
      early = λ before. elim (cases_lt to.place own.place) [
        | inl less ↦ own.early (IsBefore-trans cell to.first own.first before (pair_rises firsts to.place own.place to.first own.first rising to.found own.found less))
        | inr more ↦
            let one_place : to.place ≡ own.place = omega arith in
            let one : to.first ≡ own.first = same_Some to.first own.first (sym to.found ∙ ap (λ k. slice_get firsts k) one_place ∙ own.found) in
            own.early (subst (λ (z : Cell). IsBefore cell z) one before)
      ];
      value = to.value;
    }

-- a cell has the number that links lead to from its own
pub among_follow : (passes : Cell → Bool) (firsts : List Cell) (links : List ℕ) → AreLinked passes firsts links → (cell : Cell) (region steps : ℕ)
    → IsNumberAmong passes firsts cell region → IsNumberAmong passes firsts cell (follow links steps region)
among_follow passes firsts links linked cell region zero was = was
among_follow passes firsts links linked cell region (suc steps) was =
    let at = among_follow passes firsts links linked cell region steps was in
    let value = at.value in
    let back : at.place ≡ follow links steps region - 1 = omega arith in
    subst (λ m. IsNumberAmong passes firsts cell m) (ap (λ k. slice_index links k) back)
    (among_through passes firsts cell at.first (slice_index links at.place) at.joined at.early (linked at.place at.first at.found))
