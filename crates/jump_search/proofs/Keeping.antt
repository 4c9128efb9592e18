-- Successors that are kept at their places.
use Rattle.std.proofs.Common.{ℕ, ◌≡◌, ◌+◌, ◌-◌, ◌*◌, ◌<◌, ◌==◌, ◌↔◌, Bool, IsTrue, List, Option, None, Some, length, get_or, set, inl, inr, refl, sym, subst, ap, ◌∙◌, arith}
use Rattle.std.specs.Prelude.{replicate}
use Rattle.std.specs.Int.{bit_at}
use Rattle.std.proofs.lemmas.List.{length-set, length-replicate, get_or-replicate}
use Rattle.std.proofs.lemmas.Option.{none-some, same_Some, slice_get_within, slice_get_read, get_or_from_slice_get}
use Rattle.std.proofs.lemmas.Nat.Bits.{bit_at_cat_low, bit_at_cat_high}
use Rattle.nav_types.specs.declared.directions.Dir.{Dir}
use Rattle.nav_types.specs.declared.directions.Dir.TheVariants.{N, E, S, W, NE, SE, SW, NW}
use Rattle.nav_types.specs.declared.directions.DirSet.{DirSet}
use Rattle.nav_types.specs.DirSets.{holds}
use Rattle.nav_types.specs.Beside.{IsFreeBeside}
use Rattle.jump_scan.specs.Successors.{AreSuccessors, AreFreeBeside, IsSuccessor}
use Rattle.jump_search.specs.inner.Numbered.{arrival_number}
use Rattle.jump_search.specs.inner.KnownSets.{bit_of, IsPlaceOf, AreKnown}
use Rattle.jump_search.proofs.Listing.{get_set_cases}
use Rattle.jump_search.proofs.Numbering.{one_arrival}

bit_low : (dir : Dir) → bit_of dir < 8
bit_low N = omega arith
bit_low E = omega arith
bit_low S = omega arith
bit_low W = omega arith
bit_low NE = omega arith
bit_low SE = omega arith
bit_low SW = omega arith
bit_low NW = omega arith

low_half : (high low k : ℕ) (set : Bool) → k < 4 → (bit_at low k == 1) ≡ set → (bit_at (high * 16 + low) k == 1) ≡ set
low_half high low k set less is = ap (λ b. b == 1) (bit_at_cat_low high 4 low k less) ∙ is

high_half : (high low k : ℕ) (set : Bool) → low < 16 → (bit_at high k == 1) ≡ set
    → (bit_at (high * 16 + low) (k + 4) == 1) ≡ set
high_half high low k set few is =
    let same : k + 4 - 4 ≡ k = omega arith in
    ap (λ b. b == 1) (bit_at_cat_high high 4 low (k + 4) few (omega arith) ∙ ap (bit_at high) same) ∙ is

-- four bits tell of four directions
pub record TellsFour (bits : ℕ) (free : DirSet) (a b c d : Dir) : Type 0 where
  pub first : (bit_at bits 0 == 1) ≡ holds free a
  pub second : (bit_at bits 1 == 1) ≡ holds free b
  pub third : (bit_at bits 2 == 1) ≡ holds free c
  pub fourth : (bit_at bits 3 == 1) ≡ holds free d

-- the bits of two halves
pub all_told : (high low : ℕ) (free : DirSet) → low < 16 → TellsFour low free NW N NE W → TellsFour high free E SW S SE
    → (dir : Dir) → (bit_at (high * 16 + low) (bit_of dir) == 1) ≡ holds free dir
all_told high low free few one other NW = low_half high low 0 _ (omega arith) one.first
all_told high low free few one other N = low_half high low 1 _ (omega arith) one.second
all_told high low free few one other NE = low_half high low 2 _ (omega arith) one.third
all_told high low free few one other W = low_half high low 3 _ (omega arith) one.fourth
all_told high low free few one other E = high_half high low 0 _ few other.first
all_told high low free few one other SW = high_half high low 1 _ few other.second
all_told high low free few one other S = high_half high low 2 _ few other.third
all_told high low free few one other SE = high_half high low 3 _ few other.fourth

pub some_arrival : (arrived : Dir) → 0 < arrival_number (Some arrived)
some_arrival N = omega arith
some_arrival E = omega arith
some_arrival S = omega arith
some_arrival W = omega arith
some_arrival NE = omega arith
some_arrival SE = omega arith
some_arrival SW = omega arith
some_arrival NW = omega arith

-- the place of an arrival and the number of a set
pub is_place : (free : DirSet) (arrived : Dir) (arrival number : ℕ) → arrival + 1 ≡ arrival_number (Some arrived) → number < 256
    → ((dir : Dir) → (bit_at number (bit_of dir) == 1) ≡ holds free dir) → IsPlaceOf free arrived (arrival * 256 + number)
is_place free arrived arrival number is few bits = record {
  arrival = omega (arith, is, few);
  beside = λ dir. ap (λ b. b == 1) (bit_at_cat_low arrival 8 number (bit_of dir) (bit_low dir)) ∙ bits dir;
}

-- what has the same place has the same successors
same_successors : (free other : DirSet) (arrived came : Dir) (place : ℕ) (dirs : DirSet) → IsPlaceOf free arrived place
    → IsPlaceOf other came place → AreSuccessors free arrived dirs → AreSuccessors other came dirs
same_successors free other arrived came place dirs one two are passes cell passable beside =
    let same = one_arrival (Some arrived) (Some came) (sym one.arrival ∙ two.arrival) in
    let free_beside : AreFreeBeside passes cell free = λ dir.
    subst (λ (b : Bool). IsTrue b ↔ IsFreeBeside passes cell dir) (sym (two.beside dir) ∙ one.beside dir) (beside dir) in
    subst (λ (d : Option Dir). (dir : Dir) → IsTrue (holds dirs dir) ↔ IsSuccessor passes cell d dir) same
    (are passes cell passable free_beside)

-- what is never there is none
pub only_none : {A : Type 0} (Is : Option A → Type 0) → ((a : A) → Is (Some a) → ⊥) → (found : Option A) → Is found → found ≡ None
only_none Is never None is = refl
only_none Is never (Some a) is = absurd (never a is)

pub none_known : (sets : List (Option DirSet)) → sets ≡ replicate (8 * 256) None → AreKnown sets
none_known sets is = record {
  places = ap length is ∙ length-replicate {A = Option DirSet} 2048 None;
  right = λ free arrived place dirs at found.
      let long : length sets ≡ 8 * 256 = ap length is ∙ length-replicate {A = Option DirSet} 2048 None in
      let low = slice_get_within sets place (Some dirs) found in
      let few : place < 8 * 256 = omega (arith, low, long) in
      let some = get_or_from_slice_get sets place (Some dirs) None found in
      let none = ap (λ l. get_or l place None) is ∙ get_or-replicate 2048 place None None few in
      absurd (none-some dirs (sym none ∙ some));
}

pub known_kept : (sets : List (Option DirSet)) (free : DirSet) (arrived : Dir) (place : ℕ) (dirs : DirSet) → AreKnown sets
    → IsPlaceOf free arrived place → AreSuccessors free arrived dirs → AreKnown (set sets place (Some dirs))
known_kept sets free arrived place dirs known at are = record {
  places = length-set sets place (Some dirs) ∙ known.places;
  right = λ other came there those at_other found. elim (get_set_cases sets place there (Some dirs) (Some those) found) [
    | inl here ↦
        let one : IsPlaceOf other came place = subst (IsPlaceOf other came) here.0 at_other in
        let same = same_Some dirs those here.1 in
        subst (AreSuccessors other came) same (same_successors free other arrived came place dirs at one are)
    | inr before ↦ known.right other came there those at_other before.1
  ];
}

-- what is read at a place
pub known_read : (sets : List (Option DirSet)) (free : DirSet) (arrived : Dir) (place : ℕ) (dirs : DirSet) (read : Option DirSet)
    → AreKnown sets → IsPlaceOf free arrived place → place < 8 * 256 → read ≡ get_or sets place read → read ≡ Some dirs
    → AreSuccessors free arrived dirs
known_read sets free arrived place dirs read known at few is some =
    known.right free arrived place dirs at (slice_get_read sets 2048 place read (sym known.places) few is ∙ ap (λ (entry : Option DirSet). Some entry) some)
