-- A block of a row, with 0 past the row's end, and the word of its class bits.
use Rattle.std.proofs.Common.{◌≡◌, ℕ, zero, suc, ◌+◌, ◌-◌, ◌*◌, ◌%◌, ◌^◌, ◌<◌, ◌≤◌, Bool, false, cond, eqb, List, [], ◌∷◌, ◌++◌, length, map, take, drop, get_or, replicate, bit_and, refl, sym, ap, ◌∙◌, ⊎_elim, arith, w16}
use Rattle.std.specs.Int.{bit_at}
use Rattle.std.specs.List.{count_by}
use Rattle.std.specs.Int.RustNames.{count_ones}
use Rattle.std.specs.Simd.Lanes.{zip2, mask_l, top}
use Rattle.std.proofs.lemmas.Nat.Bits.{and_pow, bit_at-lt, bit_at-zero}
use Rattle.std.proofs.lemmas.Simd.{zip2_splat, bitmask_splat, map-map, bit_mask_l, ones-mask_l}
use Rattle.std.proofs.lemmas.Bool.{eq-eqb, ne_eqb, cases_eq}
use Rattle.std.proofs.lemmas.List.{length-map, get_or-drop, drop_all, drop-drop, take_rest}
use Rattle.std.proofs.lemmas.List.Sums.{sum_by-cons}
use Rattle.std.proofs.lemmas.Nat.{pow_pos}
use Rattle.std.proofs.Math.Pow.{pow-lt}
use Rattle.lane_rows.specs.Rows.{has_class}
use Rattle.lane_rows.specs.inner.Blocks.{padded}

pub length-padded : (n : ℕ) (xs : List ℕ) → length (padded n xs) ≡ n
unfolding padded
length-padded zero xs = refl
length-padded (suc n) [] = ap suc (length-padded n [])
length-padded (suc n) (x ∷ xs) = ap suc (length-padded n xs)

pub get_or-padded : (n : ℕ) (xs : List ℕ) (k : ℕ) → k < n → get_or (padded n xs) k 0 ≡ get_or xs k 0
unfolding padded
get_or-padded zero xs k below = absurd (omega arith)
get_or-padded (suc n) [] zero below = refl
get_or-padded (suc n) [] (suc k) below = get_or-padded n [] k (omega arith)
get_or-padded (suc n) (x ∷ xs) zero below = refl
get_or-padded (suc n) (x ∷ xs) (suc k) below = get_or-padded n xs k (omega arith)

-- a whole block
pub padded_whole : (n : ℕ) (xs : List ℕ) → n ≤ length xs → take n xs ≡ padded n xs
unfolding padded
padded_whole zero xs enough = refl
padded_whole (suc n) [] enough = absurd (omega arith)
padded_whole (suc n) (x ∷ xs) enough = ap (λ ys. x ∷ ys) (padded_whole n xs (omega arith))

-- the rest after the last whole block
pub padded_rest : (n : ℕ) (xs : List ℕ) → length xs ≤ n → xs ++ drop (length xs) (replicate n 0) ≡ padded n xs
unfolding padded
padded_rest zero [] short = refl
padded_rest zero (x ∷ xs) short = absurd (omega arith)
padded_rest (suc n) [] short = ap (λ ys. 0 ∷ ys) (padded_rest n [] (omega arith))
padded_rest (suc n) (x ∷ xs) short = ap (λ ys. x ∷ ys) (padded_rest n xs (omega arith))

-- what is read of a row from start on
pub read_whole : (n start : ℕ) (row : List ℕ) → n ≤ length (take (length row - start) (drop start row))
    → take n (take (length row - start) (drop start row)) ≡ padded n (drop start row)
read_whole n start row enough =
    ap (take n) (take_rest row start) ∙ padded_whole n (drop start row) (omega (arith, ap length (take_rest row start)))

pub read_rest : (n start : ℕ) (row : List ℕ) → length (take (length row - start) (drop start row)) < n
    → take (length row - start) (drop start row) ++ drop (length (take (length row - start) (drop start row))) (replicate n 0) ≡ padded n (drop start row)
read_rest n start row short =
    ap (λ xs. xs ++ drop (length xs) (replicate n 0)) (take_rest row start)
    ∙ padded_rest n (drop start row) (omega (arith, ap length (take_rest row start)))

-- a count over a row is that over its first block and that over what follows it
pub count_by-padded : (p : ℕ → Bool) → p 0 ≡ false → (n : ℕ) (xs : List ℕ) → count_by p (padded n xs) + count_by p (drop n xs) ≡ count_by p xs
unfolding padded
count_by-padded p none zero xs = omega arith
count_by-padded p none (suc n) [] =
    let first : count_by p (0 ∷ padded n []) ≡ cond (p 0) 1 0 + count_by p (padded n []) = sum_by-cons (λ x. cond (p x) 1 0) 0 (padded n []) in
    let off : cond {A = ℕ} (p 0) 1 0 ≡ 0 = ap (λ b. cond b 1 0) none in
    let rest : count_by p (padded n []) + count_by p (drop n []) ≡ 0 = count_by-padded p none n [] in
    ap (λ c. c + 0) first ∙ omega arith
count_by-padded p none (suc n) (x ∷ xs) =
    let first : count_by p (x ∷ padded n xs) ≡ cond (p x) 1 0 + count_by p (padded n xs) = sum_by-cons (λ y. cond (p y) 1 0) x (padded n xs) in
    let whole : count_by p (x ∷ xs) ≡ cond (p x) 1 0 + count_by p xs = sum_by-cons (λ y. cond (p y) 1 0) x xs in
    let rest : count_by p (padded n xs) + count_by p (drop n xs) ≡ count_by p xs = count_by-padded p none n xs in
    ap (λ c. c + count_by p (drop n xs)) first ∙ omega arith ∙ sym whole

-- the test by lanes is the test of the bit
bit_test : (class n : ℕ) → eqb (bit_and n (2 ^ class)) (2 ^ class) ≡ has_class class n
bit_test class n =
    let masked : bit_and n (2 ^ class) ≡ bit_at n class * 2 ^ class = and_pow n class in
    ⊎_elim
    (λ (set : bit_at n class ≡ 1).
    eq-eqb (bit_and n (2 ^ class)) (2 ^ class) (masked ∙ ap (λ b. b * 2 ^ class) set ∙ omega arith) ∙ sym (eq-eqb (bit_at n class) 1 set))
    (λ (unset : bit_at n class ≡ 1 → ⊥).
    let clear : bit_at n class ≡ 0 = omega (arith, bit_at-lt n class, unset) in
    ne_eqb (bit_and n (2 ^ class)) (2 ^ class)
    (λ same. let nothing : bit_and n (2 ^ class) ≡ 0 = masked ∙ ap (λ b. b * 2 ^ class) clear ∙ omega arith in omega (arith, pow_pos class))
    ∙ sym (ne_eqb (bit_at n class) 1 unset))
    (cases_eq (bit_at n class) 1)

one_shifted : (class : ℕ) → class < 16 → 1 * 2 ^ class % 2 ^ 16 ≡ 2 ^ class
one_shifted class small = omega (arith, pow-lt {i = class} {j = 16} small)

map_same : (p q : ℕ → Bool) → ((n : ℕ) → p n ≡ q n) → (xs : List ℕ) → map p xs ≡ map q xs
map_same p q same [] = refl
map_same p q same (x ∷ xs) = λ i. same x i ∷ map_same p q same xs i

-- `to_bitmask` of the comparison of the class bits
word_of_lanes : (n bit : ℕ) (xs : List ℕ) → length xs ≡ n → n ≤ 64
    → mask_l (map (top 15) (zip2 (λ a b. cond (eqb a b) (2 ^ 16 - 1) 0) (zip2 bit_and xs (replicate n bit)) (replicate n bit))) % 2 ^ 64 ≡ mask_l (map (λ x. eqb (bit_and x bit) bit) xs)
word_of_lanes n bit xs long small =
    let masked : zip2 bit_and xs (replicate n bit) ≡ map (λ x. bit_and x bit) xs = zip2_splat bit_and xs n bit long in
    bitmask_splat w16 eqb (zip2 bit_and xs (replicate n bit)) n bit (ap length masked ∙ length-map xs (λ x. bit_and x bit) ∙ long) small
    ∙ ap (λ ys. mask_l (map (λ y. eqb y bit) ys)) masked
    ∙ ap mask_l (map-map (λ y. eqb y bit) (λ x. bit_and x bit) xs)

pub class_word_is : (class : ℕ) (xs : List ℕ) → class < 16 → length xs ≡ 64 →
    let bit : ℕ = 1 * 2 ^ class % 2 ^ 16 in
    mask_l (map (top 15) (zip2 (λ a b. cond (eqb a b) (2 ^ 16 - 1) 0) (zip2 bit_and xs (replicate 64 bit)) (replicate 64 bit))) % 2 ^ 64 ≡ mask_l (map (has_class class) xs)
class_word_is class xs small long =
    word_of_lanes 64 (1 * 2 ^ class % 2 ^ 16) xs long (omega arith)
    ∙ ap (λ bit. mask_l (map (λ x. eqb (bit_and x bit) bit) xs)) (one_shifted class small)
    ∙ ap mask_l (map_same (λ x. eqb (bit_and x (2 ^ class)) (2 ^ class)) (has_class class) (bit_test class) xs)

-- 0 has no class bit
no_class : (class : ℕ) → has_class class 0 ≡ false
no_class class = ne_eqb (bit_at 0 class) 1 (λ set. let none : bit_at 0 class ≡ 0 = bit_at-zero class in omega arith)

bit_of_test : (class n : ℕ) → cond {A = ℕ} (has_class class n) 1 0 ≡ bit_at n class
bit_of_test class n = ⊎_elim
    (λ (set : bit_at n class ≡ 1). ap (λ (b : Bool). cond {A = ℕ} b 1 0) (eq-eqb (bit_at n class) 1 set) ∙ sym set)
    (λ (unset : bit_at n class ≡ 1 → ⊥).
    ap (λ (b : Bool). cond {A = ℕ} b 1 0) (ne_eqb (bit_at n class) 1 unset) ∙ omega (arith, bit_at-lt n class, unset))
    (cases_eq (bit_at n class) 1)

test_at : (class : ℕ) (xs : List ℕ) (k : ℕ) → get_or (map (has_class class) xs) k false ≡ has_class class (get_or xs k 0)
test_at class [] k = sym (no_class class)
test_at class (x ∷ xs) zero = refl
test_at class (x ∷ xs) (suc k) = test_at class xs k

-- bit k of the word is the class bit of the block's place k, and there is none past it
bit_of_word : (class : ℕ) (xs : List ℕ) (k : ℕ) → bit_at (mask_l (map (has_class class) xs)) k ≡ bit_at (get_or xs k 0) class
bit_of_word class xs k =
    bit_mask_l (map (has_class class) xs) k
    ∙ ap (λ (b : Bool). cond {A = ℕ} b 1 0) (test_at class xs k)
    ∙ bit_of_test class (get_or xs k 0)

-- a count goes on by the ones of the next block's word
pub count_more : (class n start count word : ℕ) (row block : List ℕ) → block ≡ padded n (drop start row) → word ≡ mask_l (map (has_class class) block)
    → count + count_by (has_class class) (drop start row) ≡ count_by (has_class class) row
    → (count + count_ones word) + count_by (has_class class) (drop (start + n) row) ≡ count_by (has_class class) row
count_more class n start count word row block read is done =
    let p : ℕ → Bool = has_class class in
    let rest : List ℕ = drop start row in
    let ones : count_ones word ≡ count_by p (padded n rest) = ap count_ones is ∙ ones-mask_l p block ∙ ap (count_by p) read in
    let split : count_by p (padded n rest) + count_by p (drop n rest) ≡ count_by p rest = count_by-padded p (no_class class) n rest in
    let next : count_by p (drop n rest) ≡ count_by p (drop (start + n) row) = ap (count_by p) (drop-drop n start row) in
    omega arith

pub count_all : (class start count : ℕ) (row : List ℕ) → length row ≤ start
    → count + count_by (has_class class) (drop start row) ≡ count_by (has_class class) row → count ≡ count_by (has_class class) row
count_all class start count row past done =
    let none : count_by (has_class class) (drop start row) ≡ 0 = ap (count_by (has_class class)) (drop_all start row past) in
    omega arith

-- what a word of the plane holds
pub plane_bit : (class start word : ℕ) (row block : List ℕ) → block ≡ padded 64 (drop start row) → word ≡ mask_l (map (has_class class) block)
    → (k : ℕ) → k < 64 → bit_at word k ≡ bit_at (get_or row (start + k) 0) class
plane_bit class start word row block read is k small =
    ap (λ n. bit_at n k) is
    ∙ bit_of_word class block k
    ∙ ap (λ xs. bit_at (get_or xs k 0) class) read
    ∙ ap (λ n. bit_at n class) (get_or-padded 64 (drop start row) k small ∙ get_or-drop start row k 0)
