-- Words of stops that are made anew.
use Rattle.std.proofs.Common.{◌≡◌, ◌≢◌, ℕ, zero, suc, ◌+◌, ◌-◌, ◌*◌, ◌/◌, ◌%◌, ◌^◌, ◌<◌, ◌≤◌, min, max, bit_and, bit_or, List, length, get_or, set, inl, inr, refl, sym, ap, ap₂, ◌∙◌, subst, arith}
use Rattle.std.specs.Int.{bit_at}
use Rattle.std.proofs.lemmas.Bool.{cases_lt}
use Rattle.std.proofs.lemmas.List.{get_or-set_same, get_or-set_other}
use Rattle.std.proofs.lemmas.Nat.Bits.{bit_at_or, bit_at_and, bit_at_above, bit_at_lowest}
use Rattle.nav_types.specs.declared.straights.Way.{Way}
use Rattle.nav_types.specs.declared.straights.Way.TheVariants.{Up, Down}
use Rattle.class_planes.specs.inner.Runs.{bit_in, opening, LaneWords}
use Rattle.class_planes.specs.inner.StopLines.{stop_bit, IsStopBit}
use Rattle.nav_types.proofs.Bits.{bit_at-shr}
use Rattle.class_planes.proofs.WordLemmas.{in_word, of_word}

-- ---- one word

-- a bit that is spread, where that of the next place is
spread_on : (r b f n o x t : ℕ) → r ≡ max b (min f n) → b ≡ max o (min f t) → t ≡ 0 → o ≡ min f x → r ≡ min f (max x n)
spread_on r b f n o x t all bits none is_open = omega (arith, all, bits, none, is_open)

-- and where the next place is in another word
spread_in : (r b f n o x t : ℕ) → r ≡ max b (min f n) → b ≡ max o (min f t) → n ≡ 0 → o ≡ min f x → r ≡ min f (max x t)
spread_in r b f n o x t all bits none is_open = omega (arith, all, bits, none, is_open)

-- bits of which some are only free places
with_more : (opened free more k : ℕ) → bit_at (bit_or opened (bit_and free more)) k
    ≡ max (bit_at opened k) (min (bit_at free k) (bit_at more k))
with_more opened free more k =
    bit_at_or opened (bit_and free more) k ∙ ap (max (bit_at opened k)) (bit_at_and free more k)

-- word w of the upward stops, by the word after it
pub record IsWordUp (lanes : LaneWords) (stops : List ℕ) (w word : ℕ) : Type 0 where
  pub inner : (k : ℕ) → k < 63
      → bit_at word k ≡ stop_bit lanes (64 * w + k) (64 * w + k + 1) (bit_at word (k + 1))
  pub last : bit_at word 63 ≡ stop_bit lanes (64 * w + 63) (64 * w + 64) (bit_in stops (64 * w + 64))

-- the forced places of the step from one place to the next
abbrev opens : LaneWords → ℕ → ℕ → ℕ
opens lanes here next = max (opening (bit_in lanes.left here) (bit_in lanes.left next))
    (opening (bit_in lanes.right here) (bit_in lanes.right next))

pub word_up : (lanes : LaneWords) (stops : List ℕ) (w free left right opened top after word : ℕ) → word < 18446744073709551616
    → ((k : ℕ) → k < 64 → bit_at free k ≡ bit_in lanes.mid (64 * w + k + 1))
    → ((k : ℕ) → k < 64 → bit_at left k ≡ bit_in lanes.left (64 * w + k + 1))
    → ((k : ℕ) → k < 64 → bit_at right k ≡ bit_in lanes.right (64 * w + k + 1))
    → ((k : ℕ) → k < 64 → bit_at opened k ≡ min (bit_at free k)
    (max (opening (bit_at (get_or lanes.left w 0) k) (bit_at left k))
    (opening (bit_at (get_or lanes.right w 0) k) (bit_at right k))))
    → ((k : ℕ) → k < 63 → bit_at top k ≡ 0) → bit_at top 63 ≡ bit_at after 0 → after ≡ get_or stops (w + 1) 0
    → ((k : ℕ) → k < 64 → bit_at word k
    ≡ max (bit_at (bit_or opened (bit_and free top)) k) (min (bit_at free k) (bit_at word (k + 1))))
    → IsWordUp lanes stops w word
word_up lanes stops w free left right opened top after word fits mids lefts rights opening_at low high is_after spread =
    let open_bit = λ (k : ℕ) (below : k < 64).
    opening_at k below ∙ ap (min (bit_at free k)) (ap₂ max
    (ap₂ opening (of_word lanes.left w k (64 * w + k) below refl) (lefts k below))
    (ap₂ opening (of_word lanes.right w k (64 * w + k) below refl) (rights k below))) in
    record {
      inner = λ k small.
          let below : k < 64 = omega (arith, small) in
          spread_on (bit_at word k) (bit_at (bit_or opened (bit_and free top)) k) (bit_at free k) (bit_at word (k + 1))
          (bit_at opened k) (opens lanes (64 * w + k) (64 * w + k + 1)) (bit_at top k) (spread k below)
          (with_more opened free top k) (low k small) (open_bit k below)
          ∙ ap (λ f. min f (max (opens lanes (64 * w + k) (64 * w + k + 1)) (bit_at word (k + 1)))) (mids k below);
      last =
          let below : 63 < 64 = omega arith in
          let there : 64 * w + 63 + 1 ≡ 64 * w + 64 = omega arith in
          let none : bit_at word (63 + 1) ≡ 0 = bit_at_above word 64 (63 + 1) fits (omega arith) in
          spread_in (bit_at word 63) (bit_at (bit_or opened (bit_and free top)) 63) (bit_at free 63) (bit_at word (63 + 1))
          (bit_at opened 63) (opens lanes (64 * w + 63) (64 * w + 63 + 1)) (bit_at top 63) (spread 63 below)
          (with_more opened free top 63) none (open_bit 63 below)
          ∙ ap₂ (λ f t. min f (max (opens lanes (64 * w + 63) (64 * w + 63 + 1)) t)) (mids 63 below)
          (high ∙ ap (λ n. bit_at n 0) is_after
          ∙ of_word stops (w + 1) 0 (64 * w + 64) (omega arith) (omega arith))
          ∙ ap (λ n. stop_bit lanes (64 * w + 63) n (bit_in stops (64 * w + 64))) there;
    }

-- word w of the downward stops, by the word before it
pub record IsWordDown (lanes : LaneWords) (stops : List ℕ) (w word : ℕ) : Type 0 where
  pub inner : (k : ℕ) → k < 63
      → bit_at word (k + 1) ≡ stop_bit lanes (64 * w + k + 1) (64 * w + k) (bit_at word k)
  pub first : 0 < w → bit_at word 0 ≡ stop_bit lanes (64 * w) (64 * w - 1) (bit_in stops (64 * w - 1))
  pub none : w ≡ 0 → bit_at word 0 ≡ 0

pub word_down : (lanes : LaneWords) (stops : List ℕ) (w free left right opened before word : ℕ)
    → ((k : ℕ) → k < 64 → 0 < 64 * w + k → bit_at free k ≡ bit_in lanes.mid (64 * w + k - 1))
    → (w ≡ 0 → bit_at free 0 ≡ 0)
    → ((k : ℕ) → k < 64 → 0 < 64 * w + k → bit_at left k ≡ bit_in lanes.left (64 * w + k - 1))
    → ((k : ℕ) → k < 64 → 0 < 64 * w + k → bit_at right k ≡ bit_in lanes.right (64 * w + k - 1))
    → ((k : ℕ) → k < 64 → bit_at opened k ≡ min (bit_at free k)
    (max (opening (bit_at (get_or lanes.left w 0) k) (bit_at left k))
    (opening (bit_at (get_or lanes.right w 0) k) (bit_at right k))))
    → before < 2 → (0 < w → bit_at before 0 ≡ bit_in stops (64 * w - 1))
    → bit_at word 0 ≡ bit_at (bit_or opened (bit_and free before)) 0
    → ((k : ℕ) → k + 1 < 64 → bit_at word (k + 1)
    ≡ max (bit_at (bit_or opened (bit_and free before)) (k + 1)) (min (bit_at free (k + 1)) (bit_at word k)))
    → IsWordDown lanes stops w word
word_down lanes stops w free left right opened before word mids no_mid lefts rights opening_at small is_before lowest
    spread =
    let open_bit = λ (k : ℕ) (below : k < 64) (some : 0 < 64 * w + k).
    opening_at k below ∙ ap (min (bit_at free k)) (ap₂ max
    (ap₂ opening (of_word lanes.left w k (64 * w + k) below refl) (lefts k below some))
    (ap₂ opening (of_word lanes.right w k (64 * w + k) below refl) (rights k below some))) in
    record {
      inner = λ k low.
          let below : k + 1 < 64 = omega (arith, low) in
          let some : 0 < 64 * w + (k + 1) = omega arith in
          let back : 64 * w + (k + 1) - 1 ≡ 64 * w + k = omega arith in
          let here : 64 * w + (k + 1) ≡ 64 * w + k + 1 = omega arith in
          let none : bit_at before (k + 1) ≡ 0 = bit_at_above before 1 (k + 1) (omega (arith, small)) (omega arith) in
          spread_on (bit_at word (k + 1)) (bit_at (bit_or opened (bit_and free before)) (k + 1)) (bit_at free (k + 1))
          (bit_at word k) (bit_at opened (k + 1)) (opens lanes (64 * w + (k + 1)) (64 * w + (k + 1) - 1))
          (bit_at before (k + 1)) (spread k below) (with_more opened free before (k + 1)) none
          (open_bit (k + 1) below some)
          ∙ ap (λ f. min f (max (opens lanes (64 * w + (k + 1)) (64 * w + (k + 1) - 1)) (bit_at word k)))
          (mids (k + 1) below some)
          ∙ ap₂ (λ a b. stop_bit lanes a b (bit_at word k)) here back;
      first = λ after.
          let some : 0 < 64 * w + 0 = omega (arith, after) in
          let back : 64 * w + 0 - 1 ≡ 64 * w - 1 = omega arith in
          let here : 64 * w + 0 ≡ 64 * w = omega arith in
          first_in (bit_at word 0) (bit_at (bit_or opened (bit_and free before)) 0) (bit_at free 0) (bit_at opened 0)
          (opens lanes (64 * w + 0) (64 * w + 0 - 1)) (bit_at before 0) lowest (with_more opened free before 0)
          (open_bit 0 (omega arith) some)
          ∙ ap₂ (λ f t. min f (max (opens lanes (64 * w + 0) (64 * w + 0 - 1)) t)) (mids 0 (omega arith) some)
          (is_before after)
          ∙ ap₂ (λ a b. stop_bit lanes a b (bit_in stops (64 * w - 1))) here back;
      none = λ first.
          let shut = no_mid first in
          let bits = with_more opened free before 0 in
          let opens_none = opening_at 0 (omega arith) in
          omega (arith, lowest, bits, shut, opens_none);
    }
  where
    first_in : (r b f o x t : ℕ) → r ≡ b → b ≡ max o (min f t) → o ≡ min f x → r ≡ min f (max x t)
    first_in r b f o x t all bits is_open = omega (arith, all, bits, is_open)

-- ---- words in a line

bit_set : (xs : List ℕ) (w v k : ℕ) → w < length xs → k < 64 → bit_in (set xs w v) (64 * w + k) ≡ bit_at v k
bit_set xs w v k within small =
    in_word (set xs w v) w k small ∙ ap (λ n. bit_at n k) (get_or-set_same xs w v 0 within)

bit_kept : (xs : List ℕ) (w v i : ℕ) → i / 64 ≢ w → bit_in (set xs w v) i ≡ bit_in xs i
bit_kept xs w v i other = ap (λ n. bit_at n (i % 64)) (get_or-set_other xs w (i / 64) v 0 other)

-- a bit that is right stays so where it and the next one stay
stays_up : (lanes : LaneWords) (old new : List ℕ) (i : ℕ) → bit_in new i ≡ bit_in old i
    → bit_in new (suc i) ≡ bit_in old (suc i) → IsStopBit Up lanes old i → IsStopBit Up lanes new i
stays_up lanes old new i here next is = here ∙ is ∙ ap (stop_bit lanes i (suc i)) (sym next)

stays_down : (lanes : LaneWords) (old new : List ℕ) (i : ℕ) → bit_in new i ≡ bit_in old i
    → ((j : ℕ) → suc j ≡ i → bit_in new j ≡ bit_in old j) → IsStopBit Down lanes old i → IsStopBit Down lanes new i
stays_down lanes old new zero here next is = here ∙ is
stays_down lanes old new (suc j) here next is = here ∙ is ∙ ap (stop_bit lanes (suc j) j) (sym (next j refl))

-- a line of equal bits has equal stops
pub stop_alike : (way : Way) (lanes : LaneWords) (old new : List ℕ) (i : ℕ)
    → ((j : ℕ) → bit_in new j ≡ bit_in old j) → IsStopBit way lanes old i → IsStopBit way lanes new i
stop_alike Up lanes old new i same is = stays_up lanes old new i (same i) (same (suc i)) is
stop_alike Down lanes old new i same is = stays_down lanes old new i (same i) (λ j next. same j) is

-- the bits of a word that was made anew are right
right_up : (lanes : LaneWords) (stops new : List ℕ) (w word i : ℕ) → IsWordUp lanes stops w word
    → ((k : ℕ) → k < 64 → bit_in new (64 * w + k) ≡ bit_at word k)
    → bit_in new (64 * w + 64) ≡ bit_in stops (64 * w + 64) → i / 64 ≡ w → IsStopBit Up lanes new i
right_up lanes stops new w word i is bits next in_w =
    let k : ℕ = i % 64 in
    let here : 64 * w + k ≡ i = omega (arith, in_w) in
    let small : k < 64 = omega arith in
    subst (λ n. bit_in new n ≡ stop_bit lanes n (suc n) (bit_in new (suc n))) here (elim (cases_lt k 63) [
      | inl low ↦
          let on : 64 * w + k + 1 ≡ suc (64 * w + k) = omega arith in
          let on_bit : 64 * w + (k + 1) ≡ suc (64 * w + k) = omega arith in
          bits k small ∙ is.inner k low
          ∙ ap₂ (stop_bit lanes (64 * w + k)) on
          (sym (bits (k + 1) (omega (arith, low))) ∙ ap (bit_in new) on_bit)
      | inr high ↦
          let top : 63 ≡ k = omega (arith, high, small) in
          let on : 64 * w + 64 ≡ suc (64 * w + 63) = omega arith in
          subst (λ m. bit_in new (64 * w + m) ≡ stop_bit lanes (64 * w + m) (suc (64 * w + m))
          (bit_in new (suc (64 * w + m)))) top
          (bits 63 (omega arith) ∙ is.last
          ∙ ap₂ (stop_bit lanes (64 * w + 63)) on (sym next ∙ ap (bit_in new) on))
    ])

right_down : (lanes : LaneWords) (stops new : List ℕ) (w word i : ℕ) → IsWordDown lanes stops w word
    → ((k : ℕ) → k < 64 → bit_in new (64 * w + k) ≡ bit_at word k)
    → (0 < w → bit_in new (64 * w - 1) ≡ bit_in stops (64 * w - 1)) → i / 64 ≡ w → IsStopBit Down lanes new i
right_down lanes stops new w word zero is bits next in_w =
    let first : w ≡ 0 = omega (arith, in_w) in
    let here : 64 * w + 0 ≡ 0 = omega (arith, first) in
    ap (bit_in new) (sym here) ∙ bits 0 (omega arith) ∙ is.none first
right_down lanes stops new w word (suc j) is bits next in_w = elim (cases_lt (64 * w) (suc j)) [
  | inl inside ↦
      let k : ℕ = j - 64 * w in
      let low : k < 63 = omega (arith, inside, in_w) in
      let there : 64 * w + k ≡ j = omega (arith, inside) in
      let here : 64 * w + k + 1 ≡ suc j = omega (arith, inside) in
      let here_bit : 64 * w + (k + 1) ≡ suc j = omega (arith, inside) in
      ap (bit_in new) (sym here_bit) ∙ bits (k + 1) (omega (arith, low)) ∙ is.inner k low
      ∙ ap₂ (λ a b. stop_bit lanes a b (bit_at word k)) here there
      ∙ ap (stop_bit lanes (suc j) j) (sym (bits k (omega (arith, low))) ∙ ap (bit_in new) there)
  | inr border ↦
      let some : 0 < w = omega (arith, border, in_w) in
      let here : 64 * w ≡ suc j = omega (arith, border, in_w) in
      let here_bit : 64 * w + 0 ≡ suc j = omega (arith, here) in
      let there : 64 * w - 1 ≡ j = omega (arith, here) in
      ap (bit_in new) (sym here_bit) ∙ bits 0 (omega arith) ∙ is.first some
      ∙ ap₂ (λ a b. stop_bit lanes a b (bit_in stops (64 * w - 1))) here there
      ∙ ap (stop_bit lanes (suc j) j) (sym (next some) ∙ ap (bit_in new) there)
]

-- ---- upwards: the words from w on are made anew

pub record IsRenewedUp (lanes : LaneWords) (first last w : ℕ) (old now : List ℕ) : Type 0 where
  pub kept : (v : ℕ) → v < w → get_or now v 0 ≡ get_or old v 0
  pub near : (i : ℕ) → w ≤ i / 64 → first ≤ i / 64 → i / 64 ≤ last → IsStopBit Up lanes now i
  pub far : (i : ℕ) → w ≤ i / 64 → IsStopBit Up lanes old i → IsStopBit Up lanes now i

pub none_up : (lanes : LaneWords) (first last w : ℕ) (old : List ℕ) → last < w → IsRenewedUp lanes first last w old old
none_up lanes first last w old past = record {
  kept = λ v below. refl;
  near = λ i from low high. absurd (omega (arith, from, high, past));
  far = λ i from is. is;
}

pub more_up : (lanes : LaneWords) (first last w u word : ℕ) (old now : List ℕ) → u < w → w ≡ u + 1 → u < length now
    → IsWordUp lanes now u word → IsRenewedUp lanes first last w old now
    → IsRenewedUp lanes first last u old (set now u word)
more_up lanes first last w u word old now under next within is so_far =
    let new : List ℕ = set now u word in
    let here = λ (i : ℕ) (in_u : i / 64 ≡ u).
    right_up lanes now new u word i is (λ k small. bit_set now u word k within small)
    (bit_kept now u word (64 * u + 64) (λ e. omega (arith, e))) in_u in
    let above = λ (i : ℕ) (from : w ≤ i / 64) (right : IsStopBit Up lanes now i).
    stays_up lanes now new i (bit_kept now u word i (λ e. omega (arith, e, from, under)))
    (bit_kept now u word (suc i) (λ e. omega (arith, e, from, under))) right in
    record {
      kept = λ v below. get_or-set_other now u v word 0 (λ e. omega (arith, e, below)) ∙ so_far.kept v (omega (arith, below, under));
      near = λ i from low high. elim (cases_lt u (i / 64)) [
        | inl past ↦
            let there : w ≤ i / 64 = omega (arith, past, next) in above i there (so_far.near i there low high)
        | inr at ↦ here i (omega (arith, at, from))
      ];
      far = λ i from was. elim (cases_lt u (i / 64)) [
        | inl past ↦ let there : w ≤ i / 64 = omega (arith, past, next) in above i there (so_far.far i there was)
        | inr at ↦ here i (omega (arith, at, from))
      ];
    }

-- where the lowest bit of the last word is as it was, the words below stay right
pub settled_up : (lanes : LaneWords) (first last u : ℕ) (old now : List ℕ) → IsRenewedUp lanes first last u old now
    → bit_in now (64 * u) ≡ bit_in old (64 * u) → (i : ℕ) → IsStopBit Up lanes old i → IsStopBit Up lanes now i
settled_up lanes first last u old now renewed carry i was = elim (cases_lt (i / 64) u) [
  | inr past ↦ renewed.far i past was
  | inl below ↦
      stays_up lanes old now i (ap (λ n. bit_at n (i % 64)) (renewed.kept (i / 64) below))
      (elim (cases_lt (suc i / 64) u) [
        | inl on ↦ ap (λ n. bit_at n (suc i % 64)) (renewed.kept (suc i / 64) on)
        | inr border ↦
            let there : 64 * u ≡ suc i = omega (arith, below, border) in
            subst (λ n. bit_in now n ≡ bit_in old n) there carry
      ]) was
]

pub carry_up_same : (old now : List ℕ) (u word : ℕ) → u < length now → get_or now u 0 ≡ get_or old u 0
    → word % 2 ≡ get_or now u 0 % 2 → bit_in (set now u word) (64 * u) ≡ bit_in old (64 * u)
carry_up_same old now u word within kept same =
    let here : 64 * u + 0 ≡ 64 * u = omega arith in
    ap (bit_in (set now u word)) (sym here) ∙ bit_set now u word 0 within (omega arith)
    ∙ bit_at_lowest word ∙ same ∙ sym (bit_at_lowest (get_or now u 0))
    ∙ ap (λ n. bit_at n 0) kept ∙ of_word old u 0 (64 * u) (omega arith) (omega arith)

-- ---- downwards: the words before w are made anew

pub record IsRenewedDown (lanes : LaneWords) (first last w : ℕ) (old now : List ℕ) : Type 0 where
  pub kept : (v : ℕ) → w ≤ v → get_or now v 0 ≡ get_or old v 0
  pub near : (i : ℕ) → i / 64 < w → first ≤ i / 64 → i / 64 ≤ last → IsStopBit Down lanes now i
  pub far : (i : ℕ) → i / 64 < w → IsStopBit Down lanes old i → IsStopBit Down lanes now i

pub none_down : (lanes : LaneWords) (first last w : ℕ) (old : List ℕ) → w ≡ first
    → IsRenewedDown lanes first last w old old
none_down lanes first last w old begins = record {
  kept = λ v from. refl;
  near = λ i below low high. absurd (omega (arith, begins, below, low));
  far = λ i below is. is;
}

pub more_down : (lanes : LaneWords) (first last w word : ℕ) (old now : List ℕ) → w < length now
    → IsWordDown lanes now w word → IsRenewedDown lanes first last w old now
    → IsRenewedDown lanes first last (w + 1) old (set now w word)
more_down lanes first last w word old now within is so_far =
    let new : List ℕ = set now w word in
    let here = λ (i : ℕ) (in_w : i / 64 ≡ w).
    right_down lanes now new w word i is (λ k small. bit_set now w word k within small)
    (λ some. bit_kept now w word (64 * w - 1) (λ e. omega (arith, e, some))) in_w in
    let under = λ (i : ℕ) (below : i / 64 < w) (right : IsStopBit Down lanes now i).
    stays_down lanes now new i (bit_kept now w word i (λ e. omega (arith, e, below)))
    (λ j next. bit_kept now w word j (λ e. omega (arith, e, below, next))) right in
    record {
      kept = λ v from. get_or-set_other now w v word 0 (λ e. omega (arith, e, from)) ∙ so_far.kept v (omega (arith, from));
      near = λ i below low high. elim (cases_lt (i / 64) w) [
        | inl early ↦ under i early (so_far.near i early low high)
        | inr at ↦ here i (omega (arith, at, below))
      ];
      far = λ i below was. elim (cases_lt (i / 64) w) [
        | inl early ↦ under i early (so_far.far i early was)
        | inr at ↦ here i (omega (arith, at, below))
      ];
    }

pub settled_down : (lanes : LaneWords) (first last w : ℕ) (old now : List ℕ)
    → IsRenewedDown lanes first last (w + 1) old now
    → bit_in now (64 * w + 63) ≡ bit_in old (64 * w + 63) → (i : ℕ) → IsStopBit Down lanes old i
    → IsStopBit Down lanes now i
settled_down lanes first last w old now renewed carry i was = elim (cases_lt (i / 64) (w + 1)) [
  | inl early ↦ renewed.far i early was
  | inr from ↦
      stays_down lanes old now i (ap (λ n. bit_at n (i % 64)) (renewed.kept (i / 64) from))
      (λ j next. elim (cases_lt (j / 64) (w + 1)) [
        | inr past ↦ ap (λ n. bit_at n (j % 64)) (renewed.kept (j / 64) past)
        | inl border ↦
            let there : 64 * w + 63 ≡ j = omega (arith, from, next, border) in
            subst (λ n. bit_in now n ≡ bit_in old n) there carry
      ]) was
]

pub carry_down_same : (old now : List ℕ) (w word : ℕ) → w < length now → get_or now w 0 ≡ get_or old w 0
    → word / 2 ^ 63 ≡ get_or now w 0 / 2 ^ 63 → bit_in (set now w word) (64 * w + 63) ≡ bit_in old (64 * w + 63)
carry_down_same old now w word within kept same =
    bit_set now w word 63 within (omega arith)
    ∙ sym (bit_at-shr word 63 0) ∙ ap (λ n. bit_at n 0) same ∙ bit_at-shr (get_or now w 0) 63 0
    ∙ ap (λ n. bit_at n 63) kept ∙ of_word old w 63 (64 * w + 63) (omega arith) refl
