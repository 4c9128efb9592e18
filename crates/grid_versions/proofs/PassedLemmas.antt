-- Loops that pass over the chunks without bits.
use Rattle.std.proofs.Common.{ℕ, ◌≡◌, ◌≢◌, ◌+◌, ◌<◌, ◌≤◌, ◌⊎◌, ◌==◌, false, List, length, map, set, take, option_map, inl, inr, ap, sym, subst, ◌∙◌, arith, Some}
use Rattle.std.specs.Prelude.{slice_get, slice_index}
use Rattle.std.specs.List.{count_by}
use Rattle.std.proofs.lemmas.Bool.{cases_lt}
use Rattle.std.proofs.lemmas.List.{length-set, get_or-set_same, get_or-set_other, take-take}
use Rattle.std.proofs.lemmas.Nat.Bits.{bit_at-zero}
use Rattle.std.proofs.lemmas.Option.{slice_get-map, slice_get-get_or}
use Rattle.lane_rows.specs.Rows.{has_class}
use Rattle.grid_versions.specs.inner.Marks.{AreNextFrom}
use Rattle.grid_versions.proofs.ChangeLemmas.{marks_most}
use Rattle.grid_versions.proofs.RemakeLemmas.{AreRemade}

-- no place from one on and before another has bits
abbrev pub NoneIn : List ℕ → ℕ → ℕ → Type 0
NoneIn bits from to = (k : ℕ) → from ≤ k → k < to → k < length bits → slice_index bits k ≡ 0

-- one place further down
pub none_down : (bits : List ℕ) (place found last : ℕ) → (place ≡ found) ⊎ ((slice_index bits place ≡ 0) × (found ≡ last))
    → NoneIn bits (place + 1) last → NoneIn bits place found
none_down bits place found last which none k from below within = elim which [
  | inl here ↦ absurd (omega arith)
  | inr past ↦ elim (cases_lt place k) [
    | inl later ↦ let same = past.1 in none k (omega arith) (omega arith) within
    | inr here ↦ let same : place ≡ k = omega arith in subst (λ (i : ℕ). slice_index bits i ≡ 0) same past.0
  ]
]

pub next_down : (bits next : List ℕ) (place found : ℕ) → place < length next → AreNextFrom (place + 1) bits next → place ≤ found
    → NoneIn bits place found → AreNextFrom place bits (set next place found)
next_down bits next place found low so_far from none =
    let here : slice_index (set next place found) place ≡ found = get_or-set_same next place found 0 low in
    let elsewhere : (at : ℕ) → at ≢ place → slice_index (set next place found) at ≡ slice_index next at =
    λ at apart. get_or-set_other next place at found 0 apart in
    record {
      each = length-set next place found ∙ so_far.each;
      after = λ at high within. elim (cases_lt place at) [
        | inl later ↦
            subst (λ (n : ℕ). at ≤ n) (sym (elsewhere at (λ same. omega arith))) (so_far.after at (omega arith) within)
        | inr first ↦
            let same : place ≡ at = omega arith in
            subst (λ (i : ℕ). i ≤ slice_index (set next place found) i) same (subst (λ (n : ℕ). place ≤ n) (sym here) from)
      ];
      none = λ at k high low below within. elim (cases_lt place at) [
        | inl later ↦
            so_far.none at k (omega arith) low (subst (λ (n : ℕ). k < n) (elsewhere at (λ same. omega arith)) below) within
        | inr first ↦
            let same : at ≡ place = omega arith in
            none k (omega arith) (subst (λ (n : ℕ). k < n) (ap (λ (i : ℕ). slice_index (set next place found) i) same ∙ here) below)
            within
      ];
    }

-- a place without bits is unmarked for each class
pub unmarked_at : (class : ℕ) (bits : List ℕ) (k : ℕ) → k < length bits → slice_index bits k ≡ 0
    → slice_get (map (has_class class) bits) k ≡ Some false
unmarked_at class bits k within none =
    slice_get-map (has_class class) bits k
    ∙ ap (λ o. option_map (has_class class) o) (slice_get-get_or bits k 0 within)
    ∙ ap (λ (n : ℕ). Some (has_class class n)) none
    ∙ ap (λ (bit : ℕ). Some (bit == 1)) (bit_at-zero class)

-- places that need not be made anew are passed over
pub remade_past : {A : Type 0} (New Old : ℕ → A → Type 0) (from to : ℕ) (items : List A)
    → ((k : ℕ) (item : A) → from ≤ k → k < to → slice_get items k ≡ Some item → Old k item → New k item)
    → from ≤ to → AreRemade New Old from items → AreRemade New Old to items
remade_past New Old from to items stay order so_far = record {
  done = λ k item less at. elim (cases_lt k from) [
    | inl earlier ↦ so_far.done k item earlier at
    | inr later ↦ stay k item later less at (so_far.left k item later at)
  ];
  left = λ k item past at. so_far.left k item (omega arith) at;
}

-- marks before a place are among those before a later one
pub marks_grow : (class : ℕ) (bits : List ℕ) (from to : ℕ) → from ≤ to
    → count_by (has_class class) (take from bits) ≤ count_by (has_class class) (take to bits)
marks_grow class bits from to order =
    subst (λ (xs : List ℕ). count_by (has_class class) xs ≤ count_by (has_class class) (take to bits)) (take-take from to bits order)
    (marks_most class (take to bits) from)
