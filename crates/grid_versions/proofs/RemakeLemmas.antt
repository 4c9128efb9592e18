-- Lists of which items are made anew, one place after another.
use Rattle.std.proofs.Common.{ℕ, ◌==◌, ◌&&◌, ◌≡◌, ◌≢◌, ◌+◌, ◌<◌, ◌≤◌, List, length, map, set, get_or, option_map, ap, sym, subst, ◌∙◌, inl, inr, arith, Some}
use Rattle.std.specs.List.{slice_get}
use Rattle.std.specs.Bool.{Decides}
use Rattle.std.proofs.lemmas.Bool.{cases_lt, and_parts, and_from, eqb-true, eq-eqb}
use Rattle.std.proofs.lemmas.List.{length-set, get_or-set_same, get_or-set_other, set-get_or, map-set}
use Rattle.std.proofs.lemmas.Option.{slice_get_within, slice_get-get_or, slice_get-map, slice_get_cases, get_or_from_slice_get}
use Rattle.nav_types.specs.declared.cells.Chunk.{Chunk}
use Rattle.nav_types.specs.declared.cells.Size.{Size}
use Rattle.nav_types.proofs.Items.{same_pair}
use Rattle.grid_versions.specs.inner.ChunkLists.{chunk_numbered, AreOfChunks, IsRemadeAt}

-- the items before a place are made anew, and those from there on are as they were
pub record AreRemade {A : Type 0} (New Old : ℕ → A → Type 0) (place : ℕ) (items : List A) : Type 0 where
  pub done : (k : ℕ) (item : A) → k < place → slice_get items k ≡ Some item → New k item
  pub left : (k : ℕ) (item : A) → place ≤ k → slice_get items k ≡ Some item → Old k item

-- the item that was put at a place
pub set_here : {A : Type 0} (xs : List A) (k : ℕ) (x y : A) → k < length xs → slice_get (set xs k x) k ≡ Some y → x ≡ y
set_here xs k x y low at = sym (get_or-set_same xs k x y low) ∙ get_or_from_slice_get (set xs k x) k y y at

-- the item at another place
pub set_elsewhere : {A : Type 0} (xs : List A) (i j : ℕ) (x y : A) → j ≢ i → slice_get (set xs i x) j ≡ Some y → slice_get xs j ≡ Some y
set_elsewhere {A} xs i j x y apart at =
    let low : j < length xs = omega (arith, slice_get_within (set xs i x) j y at, length-set xs i x) in
    slice_get-get_or xs j y low
    ∙ ap (λ (z : A). Some z) (sym (get_or-set_other xs i j x y apart) ∙ get_or_from_slice_get (set xs i x) j y y at)

-- one place more
pub remade_more : {A : Type 0} (New Old : ℕ → A → Type 0) (place : ℕ) (before after : List A) → place < length before
    → AreRemade New Old place before → IsRemadeAt place (New place) before after → AreRemade New Old (place + 1) after
remade_more {A} New Old place before after low so_far made =
    let here : (k : ℕ) (item : A) → slice_get after k ≡ Some item → slice_get (set before place made.item) k ≡ Some item =
    λ k item at. ap (λ (xs : List A). slice_get xs k) (sym made.set) ∙ at in
    record {
      done = λ k item less at. elim (cases_lt k place) [
        | inl earlier ↦
            so_far.done k item earlier (set_elsewhere before place k made.item item (λ same. omega arith) (here k item at))
        | inr last ↦
            let same : place ≡ k = omega arith in
            let own : slice_get (set before place made.item) place ≡ Some item =
            ap (λ (i : ℕ). slice_get (set before place made.item) i) same ∙ here k item at in
            subst (λ (i : ℕ). New i item) same
            (subst (λ (x : A). New place x) (set_here before place made.item item low own) made.is)
      ];
      left = λ k item from at.
          so_far.left k item (omega arith) (set_elsewhere before place k made.item item (λ same. omega arith) (here k item at));
    }

-- all places are done
pub all_remade : {A : Type 0} (size : Size) (count place : ℕ) (Is : Chunk → A → Type 0) (Old : ℕ → A → Type 0) (items : List A)
    → length items ≡ count → count ≤ place → AreRemade (λ k item. Is (chunk_numbered size k) item) Old place items
    → AreOfChunks size count Is items
all_remade size count place Is Old items long past remade = record {
  each = long;
  are = λ k item at. remade.done k item (omega (arith, slice_get_within items k item at, long, past)) at;
}

-- an item that is already as said can stay
pub kept_item : {A : Type 0} (place : ℕ) (Is : A → Type 0) (items : List A) (item : A) → slice_get items place ≡ Some item → Is item
    → IsRemadeAt place Is items items
kept_item {A} place Is items item at is = record {
  item = item;
  set = sym (ap (λ (x : A). set items place x) (sym (get_or_from_slice_get items place item item at)) ∙ set-get_or items place item);
  is = is;
}

pub kept_at : {A : Type 0} (place : ℕ) (Is : A → Type 0) (items : List A) → place < length items
    → ((item : A) → slice_get items place ≡ Some item → Is item) → IsRemadeAt place Is items items
kept_at place Is items low is = elim (slice_get_cases items place).1 [
  | inl here ↦ kept_item place Is items here.0 here.2 (is here.0 here.2)
  | inr past ↦ absurd (omega (arith, past.0))
]

-- an item that counts as much as the one before it leaves the counts as they were
pub counts_kept : {A B : Type 0} (f : A → B) (before after : List A) (place : ℕ) (old item : A) → slice_get before place ≡ Some old
    → after ≡ set before place item → f item ≡ f old → map f after ≡ map f before
counts_kept {A} {B} f before after place old item at made same =
    let was : get_or (map f before) place (f old) ≡ f old = get_or_from_slice_get (map f before) place (f old) (f old)
    (slice_get-map f before place ∙ ap (λ o. option_map f o) at) in
    ap (λ (xs : List A). map f xs) made ∙ map-set f before place item
    ∙ ap (λ (y : B). set (map f before) place y) (same ∙ sym was)
    ∙ set-get_or (map f before) place (f old)

-- pairs of numbers are compared number by number
pub pair_eq-Decides : (a b : ℕ × ℕ) → Decides ((a.0 == b.0) && (a.1 == b.1)) (a ≡ b)
pair_eq-Decides a b = (
  λ equal.
      let parts = and_parts (a.0 == b.0) (a.1 == b.1) equal in
      same_pair a b (eqb-true a.0 b.0 parts.0) (eqb-true a.1 b.1 parts.1),
  λ same.
      and_from (a.0 == b.0) (a.1 == b.1) (eq-eqb a.0 b.0 (ap (λ (p : ℕ × ℕ). p.0) same)) (eq-eqb a.1 b.1 (ap (λ (p : ℕ × ℕ). p.1) same)),
)
