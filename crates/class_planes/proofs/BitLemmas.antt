-- What the bits of one line are.
use Rattle.std.proofs.Common.{◌≡◌, ℕ, ◌+◌, ◌-◌, ◌*◌, ◌/◌, ◌%◌, ◌^◌, ◌<◌, ◌≤◌, Bool, true, false, List, ◌++◌, length, map, take, drop, get_or, replicate, refl, sym, ap, ◌∙◌, ⊎_elim, arith, w64}
use Rattle.std.specs.Int.{bit_at, bit_not}
use Rattle.std.proofs.lemmas.Bool.{cases_lt}
use Rattle.std.proofs.lemmas.Nat.Bits.{bit_at_not, bit_at_ones, bit_at-zero}
use Rattle.std.proofs.lemmas.List.{take_all, drop_all, append-nil, get_or-map, get_or_past, get_or_append_left, get_or-append_right, get_or-drop, get_or-replicate, length-replicate, length-append, length-drop}
use Rattle.nav_types.specs.Rows.{bit_of}
use Rattle.lane_rows.specs.Rows.{one_if}

-- the numbers of a row, and after them numbers with every bit set
pub padded_bit : (free : Bool) (row rest : List ℕ) (n class i : ℕ) → class < 16 → length row ≡ n
    → (i < n → bit_at (get_or row i 0) class ≡ bit_of free)
    → (n ≤ i → free ≡ false)
    → (n ≤ i → get_or rest i 0 ≡ 2 ^ 16 - 1)
    → bit_at (get_or (row ++ drop n rest) i 0) class ≡ bit_of free
padded_bit free row rest n class i small long within outside full = ⊎_elim
    (λ (below : i < n).
    ap (λ n. bit_at n class) (get_or_append_left row (drop n rest) 0 i (omega arith)) ∙ within below)
    (λ (above : n ≤ i).
    let there : n + (i - n) ≡ i = omega arith in
    ap (λ n. bit_at n class)
    (get_or-append_right row (drop n rest) n i 0 long above
    ∙ get_or-drop n rest (i - n) 0
    ∙ ap (λ p. get_or rest p 0) there
    ∙ full above)
    ∙ bit_at_ones 16 class small
    ∙ sym (ap bit_of (outside above)))
    (cases_lt i n)

-- a transposed word has the other bits
pub turned_bit : (words : List ℕ) (w k : ℕ) → get_or words w 0 < 2 ^ 64 → w < length words → k < 64
    → bit_at (get_or (map (bit_not w64) words) w 0) k ≡ 1 - bit_at (get_or words w 0) k
turned_bit words w k fits within small =
    ap (λ n. bit_at n k) (get_or-map (bit_not w64) words w 0 0 within)
    ∙ bit_at_not w64 (get_or words w 0) k fits small

-- the words of a row whose bits are transposed
pub words_bit : (row plane line : List ℕ) (class n i : ℕ) → length row ≡ 64 * n → i < length row → length plane ≡ n
    → ((w k : ℕ) → k < 64 → bit_at (get_or plane w 0) k ≡ bit_at (get_or row (64 * w + k) 0) class)
    → ((w k : ℕ) → w < length plane → k < 64 → bit_at (get_or line w 0) k ≡ 1 - bit_at (get_or plane w 0) k)
    → bit_at (get_or line (i / 64) 0) (i % 64) ≡ 1 - bit_at (get_or row i 0) class
words_bit row plane line class n i long within wide bits transposed =
    let small : i % 64 < 64 = omega arith in
    let there : 64 * (i / 64) + i % 64 ≡ i = omega arith in
    transposed (i / 64) (i % 64) (omega (arith, wide)) small
    ∙ ap (λ b. 1 - b) (bits (i / 64) (i % 64) small ∙ ap (λ p. bit_at (get_or row p 0) class) there)

pub other_bit : (free : Bool) → 1 - bit_of free ≡ one_if free
other_bit true = refl
other_bit false = refl

-- the bits of a line whose row has so many numbers, 64 to a word
pub line_bits : (free : ℕ → Bool) (row line : List ℕ) (class i : ℕ) → length row ≡ 64 * length line
    → (i < length row → bit_at (get_or row i 0) class ≡ bit_of (free i))
    → (length row ≤ i → free i ≡ false)
    → (i < length row → bit_at (get_or line (i / 64) 0) (i % 64) ≡ 1 - bit_at (get_or row i 0) class)
    → bit_at (get_or line (i / 64) 0) (i % 64) ≡ one_if (free i)
line_bits free row line class i long numbers outside transposed = ⊎_elim
    (λ (below : i < length row). transposed below ∙ ap (λ b. 1 - b) (numbers below) ∙ other_bit (free i))
    (λ (above : length row ≤ i).
    ap (λ n. bit_at n (i % 64)) (get_or_past line (i / 64) 0 (omega (arith, long, above)))
    ∙ bit_at-zero (i % 64) ∙ sym (ap one_if (outside above)))
    (cases_lt i (length row))

pub zero_at : (n i : ℕ) → get_or {A = ℕ} (replicate n 0) i 0 ≡ 0
zero_at n i =
    let zeros : List ℕ = replicate n 0 in
    ⊎_elim
    (λ (below : i < n). get_or-replicate n i 0 0 below)
    (λ (above : n ≤ i). let long : length zeros ≡ n = length-replicate n 0 in get_or_past zeros i 0 (omega arith))
    (cases_lt i n)

-- a line of zeros
pub no_bits : (n i : ℕ) → bit_at (get_or (replicate n 0) (i / 64) 0) (i % 64) ≡ 0
no_bits n i = ap (λ n. bit_at n (i % 64)) (zero_at n (i / 64)) ∙ bit_at-zero (i % 64)

-- a row with another's rest is as long as that
pub joined_long : (row rest : List ℕ) (n i : ℕ) → length row ≡ n → n ≤ length rest → i < length (row ++ drop n rest)
    → i < length rest
joined_long row rest n i long short below = omega (arith, length-append row (drop n rest), length-drop n rest)

-- a loop over all words
pub all_turned : (words transposed : List ℕ) (i : ℕ) → length words ≤ i
    → transposed ≡ map (bit_not w64) (take i words) ++ drop i words → transposed ≡ map (bit_not w64) words
all_turned words transposed i past is =
    is
    ∙ ap (λ rest. map (bit_not w64) (take i words) ++ rest) (drop_all i words past)
    ∙ append-nil (map (bit_not w64) (take i words))
    ∙ ap (map (bit_not w64)) (take_all i words past)
