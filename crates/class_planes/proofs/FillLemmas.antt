-- Bits of a word that are spread over the free places beside them.
use Rattle.std.proofs.Common.{◌≡◌, ℕ, zero, suc, ◌+◌, ◌-◌, ◌*◌, ◌/◌, ◌%◌, ◌^◌, ◌<◌, ◌≤◌, min, max, inl, inr, refl, sym, ap, ◌∙◌, subst, arith}
use Rattle.std.specs.Int.{bit_at}
use Rattle.std.proofs.lemmas.Bool.{cases_lt}
use Rattle.std.proofs.lemmas.Nat.{pow_pos}
use Rattle.std.proofs.lemmas.Nat.Bits.{bit_at-zero, bit_at-lt, bit_at_ones, bit_at_ones_above, bit_at_cat_low, bit_at_cat_high}
use Rattle.nav_types.proofs.Bits.{bit_at-shr}

-- the bits of a word that is moved up: those past the word's end are lost
lost : (x k : ℕ) → k < 64 → bit_at (x % 18446744073709551616) k ≡ bit_at x k
lost x k below =
    let whole : (x / 18446744073709551616) * 2 ^ 64 + x % 18446744073709551616 ≡ x = omega arith in
    sym (bit_at_cat_low (x / 18446744073709551616) 64 (x % 18446744073709551616) k below) ∙ ap (λ n. bit_at n k) whole

pub raised_low : (word s k : ℕ) → k < s → s < 64 → bit_at (word * 2 ^ s % 18446744073709551616) k ≡ 0
raised_low word s k below small =
    let whole : word * 2 ^ s + 0 ≡ word * 2 ^ s = omega arith in
    lost (word * 2 ^ s) k (omega (arith, below, small))
    ∙ sym (ap (λ n. bit_at n k) whole)
    ∙ bit_at_cat_low word s 0 k below
    ∙ bit_at-zero k

pub raised_high : (word s k : ℕ) → s + k < 64 → bit_at (word * 2 ^ s % 18446744073709551616) (s + k) ≡ bit_at word k
raised_high word s k below =
    let whole : word * 2 ^ s + 0 ≡ word * 2 ^ s = omega arith in
    let place : s + k - s ≡ k = omega arith in
    lost (word * 2 ^ s) (s + k) below
    ∙ sym (ap (λ n. bit_at n (s + k)) whole)
    ∙ bit_at_cat_high word s 0 (s + k) (pow_pos s) (omega arith)
    ∙ ap (bit_at word) place

-- where no bit is set, none is spread
pub none_spread : (bits free here next : ℕ) → bits ≡ 0
    → bit_at 0 here ≡ max (bit_at bits here) (min (bit_at free here) (bit_at 0 next))
none_spread bits free here next none =
    let zero_here = bit_at-zero here in
    let zero_next = bit_at-zero next in
    let zero_bits : bit_at bits here ≡ bit_at 0 here = ap (λ n. bit_at n here) none in
    omega (arith, zero_here, zero_next, zero_bits)

-- each place is set, or is free and so many places from one of all
pub record IsFilledDown (all bits free : ℕ → ℕ) (far : ℕ) : Type 0 where
  pub each : (k : ℕ) → all k ≡ max (bits k) (min (free k) (all (far + k)))

pub down_further : (all bits free more less : ℕ → ℕ) (far : ℕ) → IsFilledDown all bits free far
    → ((k : ℕ) → more k ≡ max (bits k) (min (free k) (bits (far + k))))
    → ((k : ℕ) → less k ≡ min (free k) (free (far + k)))
    → IsFilledDown all more less (far + far)
down_further all bits free more less far is wider fewer = record {
  each = λ k.
      let here = is.each k in
      let there = is.each (far + k) in
      let next = wider k in
      let both = fewer k in
      let same : far + (far + k) ≡ far + far + k = omega arith in
      let last = ap all same in
      omega (arith, here, there, next, both, last);
}

-- the first places are those that are set, and each other is set, or is free and so many places from one of all
pub record IsFilledUp (all bits free : ℕ → ℕ) (far : ℕ) : Type 0 where
  pub low : (k : ℕ) → k < far → all k ≡ bits k
  pub high : (k : ℕ) → far + k < 64 → all (far + k) ≡ max (bits (far + k)) (min (free (far + k)) (all k))

pub up_further : (all bits free more less : ℕ → ℕ) (far : ℕ) → far + far ≤ 64 → IsFilledUp all bits free far
    → ((k : ℕ) → k < far → more k ≡ bits k)
    → ((k : ℕ) → far + k < 64 → more (far + k) ≡ max (bits (far + k)) (min (free (far + k)) (bits k)))
    → ((k : ℕ) → far + k < 64 → less (far + k) ≡ min (free (far + k)) (free k))
    → IsFilledUp all more less (far + far)
up_further all bits free more less far room is first wider fewer = record {
  low = λ k below. elim (cases_lt k far) [
    | inl low ↦ is.low k low ∙ sym (first k low)
    | inr past ↦
        let m : ℕ = k - far in
        let within : m < far = omega (arith, below, past) in
        let inside : far + m < 64 = omega (arith, within, room) in
        let here = is.high m inside in
        let there = is.low m within in
        let next = wider m inside in
        let same : far + m ≡ k = omega (arith, past) in
        subst (λ n. all n ≡ more n) same (omega (arith, here, there, next))
  ];
  high = λ k below.
      let inner : far + (far + k) ≡ far + far + k = omega arith in
      let inside : far + (far + k) < 64 = omega (arith, below) in
      let short : far + k < 64 = omega (arith, below) in
      let here = is.high (far + k) inside in
      let there = is.high k short in
      let next = wider (far + k) inside in
      let both = fewer (far + k) inside in
      subst (λ n. all n ≡ max (more n) (min (less n) (all k))) inner (omega (arith, here, there, next, both));
}

-- the filled places of 64, from the highest down
abbrev down_from_room : (ℕ → ℕ) → (ℕ → ℕ) → ℕ → ℕ → ℕ
down_from_room bits free zero k = 0
down_from_room bits free (suc room) k = max (bits k) (min (free k) (down_from_room bits free room (suc k)))

abbrev pub down_all : (ℕ → ℕ) → (ℕ → ℕ) → ℕ → ℕ
down_all bits free k = down_from_room bits free (64 - k) k

pub down_none : (bits free : ℕ → ℕ) (k : ℕ) → 64 ≤ k → down_all bits free k ≡ 0
down_none bits free k past =
    let room : 64 - k ≡ 0 = omega (arith, past) in
    ap (λ n. down_from_room bits free n k) room

pub down_start : (bits free : ℕ → ℕ) → ((k : ℕ) → 64 ≤ k → bits k ≡ 0) → ((k : ℕ) → 64 ≤ k → free k ≡ 0)
    → IsFilledDown (down_all bits free) bits free 1
down_start bits free no_bits no_free = record {
  each = λ k. elim (cases_lt k 64) [
    | inl below ↦
        let room : 64 - k ≡ suc (64 - suc k) = omega (arith, below) in
        let next : suc k ≡ 1 + k = omega arith in
        ap (λ n. down_from_room bits free n k) room
        ∙ ap (λ m. max (bits k) (min (free k) (down_from_room bits free (64 - m) m))) next
    | inr past ↦
        let none = no_bits k past in
        let shut = no_free k past in
        down_none bits free k past ∙ omega (arith, none, shut)
  ];
}

-- with no place left, those that are set are all
pub down_end : (all bits free : ℕ → ℕ) → IsFilledDown all bits free 64 → ((k : ℕ) → 64 ≤ k → all k ≡ 0) → (k : ℕ)
    → all k ≡ bits k
down_end all bits free is none k =
    let here = is.each k in
    let beyond = none (64 + k) (omega arith) in
    omega (arith, here, beyond)

-- the filled places from the lowest up
abbrev pub up_all : (ℕ → ℕ) → (ℕ → ℕ) → ℕ → ℕ
up_all bits free zero = bits zero
up_all bits free (suc k) = max (bits (suc k)) (min (free (suc k)) (up_all bits free k))

pub up_start : (bits free : ℕ → ℕ) → IsFilledUp (up_all bits free) bits free 1
up_start bits free = record {
  low = λ k below.
      let lowest : 0 ≡ k = omega (arith, below) in
      subst (λ n. up_all bits free n ≡ bits n) lowest refl;
  high = λ k below.
      let next : suc k ≡ 1 + k = omega arith in
      subst (λ m. up_all bits free m ≡ max (bits m) (min (free m) (up_all bits free k))) next refl;
}

-- ---- words whose places are all free

-- where all places are free, what is filled is what is set or lies beside it
pub all_free : (free bits next all k : ℕ) → free ≡ 2 ^ 64 - 1 → k < 64 → next < 2
    → all ≡ max bits next → all ≡ max bits (min (bit_at free k) next)
all_free free bits next all k full below small is =
    let set : bit_at free k ≡ 1 = ap (λ n. bit_at n k) full ∙ bit_at_ones 64 k below in
    omega (arith, set, small, is)

-- the bits of a word that is moved down, all of which were set
down_set : (s k : ℕ) → s + k < 64 → bit_at ((2 ^ 64 - 1) / 2 ^ s) k ≡ 1
down_set s k below = bit_at-shr (2 ^ 64 - 1) s k ∙ bit_at_ones 64 (s + k) below

down_unset : (s k : ℕ) → 64 ≤ s + k → bit_at ((2 ^ 64 - 1) / 2 ^ s) k ≡ 0
down_unset s k past = bit_at-shr (2 ^ 64 - 1) s k ∙ bit_at_ones_above 64 (s + k) past

-- all places up to the highest that is set
pub below_highest : (bits high k : ℕ) → high < 64 → bit_at bits high ≡ 1 → ((k : ℕ) → high < k → bit_at bits k ≡ 0) → k < 64
    → bit_at ((2 ^ 64 - 1) / 2 ^ (63 - high)) k ≡ max (bit_at bits k) (bit_at ((2 ^ 64 - 1) / 2 ^ (63 - high)) (k + 1))
below_highest bits high k small set none below = elim (cases_lt high k) [
  | inl past ↦
      let here = down_unset (63 - high) k (omega arith) in
      let next = down_unset (63 - high) (k + 1) (omega arith) in
      let unset = none k past in
      omega (arith, here, next, unset)
  | inr within ↦
      let here = down_set (63 - high) k (omega arith) in
      elim (cases_lt k high) [
        | inl less ↦
            let next = down_set (63 - high) (k + 1) (omega arith) in
            let bit = bit_at-lt bits k in
            omega (arith, here, next, bit)
        | inr last ↦
            let next = down_unset (63 - high) (k + 1) (omega arith) in
            let same : high ≡ k = omega arith in
            let own : bit_at bits k ≡ 1 = subst (λ n. bit_at bits n ≡ 1) same set in
            omega (arith, here, next, own)
      ]
]

-- the bits of a word that is moved up, all of which were set
up_set : (s k : ℕ) → s ≤ k → k < 64 → bit_at ((2 ^ 64 - 1) * 2 ^ s % 18446744073709551616) k ≡ 1
up_set s k from below =
    let place : s + (k - s) ≡ k = omega arith in
    let there : s + (k - s) < 64 = omega arith in
    subst (λ n. bit_at ((2 ^ 64 - 1) * 2 ^ s % 18446744073709551616) n ≡ 1) place
    (raised_high (2 ^ 64 - 1) s (k - s) there ∙ bit_at_ones 64 (k - s) (omega arith))

-- all places from the lowest that is set on
pub above_lowest : (bits low k : ℕ) → low < 64 → bit_at bits low ≡ 1 → ((k : ℕ) → k < low → bit_at bits k ≡ 0) → k + 1 < 64
    → bit_at ((2 ^ 64 - 1) * 2 ^ low % 18446744073709551616) (k + 1)
    ≡ max (bit_at bits (k + 1)) (bit_at ((2 ^ 64 - 1) * 2 ^ low % 18446744073709551616) k)
above_lowest bits low k small set none below = elim (cases_lt k low) [
  | inl before ↦
      let here = raised_low (2 ^ 64 - 1) low k before small in
      elim (cases_lt (k + 1) low) [
        | inl less ↦
            let next = raised_low (2 ^ 64 - 1) low (k + 1) less small in
            let unset = none (k + 1) less in
            omega (arith, here, next, unset)
        | inr first ↦
            let next = up_set low (k + 1) (omega arith) below in
            let same : low ≡ k + 1 = omega arith in
            let own : bit_at bits (k + 1) ≡ 1 = subst (λ n. bit_at bits n ≡ 1) same set in
            omega (arith, here, next, own)
      ]
  | inr from ↦
      let here = up_set low k from (omega arith) in
      let next = up_set low (k + 1) (omega arith) below in
      let bit = bit_at-lt bits (k + 1) in
      omega (arith, here, next, bit)
]

pub lowest_of_all : (bits low : ℕ) → low < 64 → bit_at bits low ≡ 1 → ((k : ℕ) → k < low → bit_at bits k ≡ 0)
    → bit_at ((2 ^ 64 - 1) * 2 ^ low % 18446744073709551616) 0 ≡ bit_at bits 0
lowest_of_all bits low small set none = elim (cases_lt 0 low) [
  | inl above ↦ raised_low (2 ^ 64 - 1) low 0 above small ∙ sym (none 0 above)
  | inr at ↦
      let same : low ≡ 0 = omega arith in
      let own : bit_at bits 0 ≡ 1 = subst (λ n. bit_at bits n ≡ 1) same set in
      up_set low 0 (omega arith) (omega arith) ∙ sym own
]
