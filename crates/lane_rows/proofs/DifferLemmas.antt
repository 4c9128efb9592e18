-- The bits in which two rows differ, block by block and place by place.
use Rattle.std.proofs.Common.{◌≡◌, ◌↔◌, ℕ, zero, suc, ◌+◌, ◌%◌, ◌<◌, ◌≤◌, ⊎_elim, max, List, [], ◌∷◌, length, drop, get_or, replicate, bit_or, bit_xor, refl, sym, ap, ◌∙◌, arith}
use Rattle.std.specs.Int.{bit_at}
use Rattle.std.specs.Simd.Lanes.{zip2, fold_l}
use Rattle.std.proofs.lemmas.Nat.Bits.{bit_at-lt, bit_at-zero, bit_at_or, bit_at_xor, same_from_bits}
use Rattle.std.proofs.lemmas.Bool.{cases_eq}
use Rattle.std.proofs.lemmas.List.{ext_get_or, length-drop, drop_all, drop-drop}
use Rattle.std.proofs.lemmas.Simd.{length-zip2}
use Rattle.lane_rows.specs.Rows.{DifferIn, AgreeIn}
use Rattle.lane_rows.specs.inner.Blocks.{padded}
use Rattle.lane_rows.proofs.BlockLemmas.{length-padded}

-- 1 where some number has bit k, and else 0
abbrev pub some_bit : ℕ → List ℕ → ℕ
some_bit k [] = 0
some_bit k (x ∷ xs) = max (bit_at x k) (some_bit k xs)

-- 1 where the rows have unlike bits k at some place, and else 0
abbrev pub unlike : ℕ → List ℕ → List ℕ → ℕ
unlike k xs ys = some_bit k (zip2 bit_xor xs ys)

fold_bit : (k a : ℕ) (xs : List ℕ) → bit_at (fold_l bit_or a xs) k ≡ max (bit_at a k) (some_bit k xs)
fold_bit k a [] = omega arith
fold_bit k a (x ∷ xs) =
    fold_bit k (bit_or a x) xs ∙ ap (λ b. max b (some_bit k xs)) (bit_at_or a x k) ∙ omega arith

some_bit-or : (k : ℕ) (xs ys : List ℕ) → length xs ≡ length ys → some_bit k (zip2 bit_or xs ys) ≡ max (some_bit k xs) (some_bit k ys)
some_bit-or k [] [] long = refl
some_bit-or k [] (y ∷ ys) long = absurd (omega arith)
some_bit-or k (x ∷ xs) [] long = absurd (omega arith)
some_bit-or k (x ∷ xs) (y ∷ ys) long =
    let rest : some_bit k (zip2 bit_or xs ys) ≡ max (some_bit k xs) (some_bit k ys) = some_bit-or k xs ys (omega arith) in
    ap (λ b. max b (some_bit k (zip2 bit_or xs ys))) (bit_at_or x y k) ∙ omega arith

-- past the rows' end nothing is unlike
blank : (k n : ℕ) → unlike k (padded n []) (padded n []) ≡ 0
unfolding padded
blank k zero = refl
blank k (suc n) =
    let zeroes : bit_at (bit_xor 0 0) k ≡ 0 = bit_at_xor 0 0 k ∙ ap (λ b. (b + b) % 2) (bit_at-zero k) in
    let rest : unlike k (padded n []) (padded n []) ≡ 0 = blank k n in
    omega arith

-- the first block, and what follows it
unlike_split : (k n : ℕ) (xs ys : List ℕ) → length xs ≡ length ys
    → max (unlike k (padded n xs) (padded n ys)) (unlike k (drop n xs) (drop n ys)) ≡ unlike k xs ys
unfolding padded
unlike_split k zero xs ys long = omega arith
unlike_split k (suc n) [] [] long = let none : unlike k (padded (suc n) []) (padded (suc n) []) ≡ 0 = blank k (suc n) in ap (λ b. max b 0) none
unlike_split k (suc n) [] (y ∷ ys) long = absurd (omega arith)
unlike_split k (suc n) (x ∷ xs) [] long = absurd (omega arith)
unlike_split k (suc n) (x ∷ xs) (y ∷ ys) long =
    let rest : max (unlike k (padded n xs) (padded n ys)) (unlike k (drop n xs) (drop n ys)) ≡ unlike k xs ys = unlike_split k n xs ys (omega arith) in
    omega arith

-- what the lanes have seen up to start, and what is left to see
abbrev pub Seen : ℕ → List ℕ → List ℕ → List ℕ → Type 0
Seen start bits xs ys = (k : ℕ) → max (some_bit k bits) (unlike k (drop start xs) (drop start ys)) ≡ unlike k xs ys

no_bits : (k n : ℕ) → some_bit k (replicate n 0) ≡ 0
no_bits k zero = refl
no_bits k (suc n) =
    let zeroes : bit_at 0 k ≡ 0 = bit_at-zero k in
    let rest : some_bit k (replicate n 0) ≡ 0 = no_bits k n in
    omega arith

pub seen_none : (n : ℕ) (xs ys : List ℕ) → Seen 0 (replicate n 0) xs ys
seen_none n xs ys k = ap (λ b. max b (unlike k xs ys)) (no_bits k n) ∙ omega arith

pub seen_more : (n start : ℕ) (bits us vs xs ys : List ℕ) → length xs ≡ length ys → length bits ≡ n
    → us ≡ padded n (drop start xs) → vs ≡ padded n (drop start ys)
    → Seen start bits xs ys → Seen (start + n) (zip2 bit_or bits (zip2 bit_xor us vs)) xs ys
seen_more n start bits us vs xs ys long lanes first second seen k =
    let left : length us ≡ n = ap length first ∙ length-padded n (drop start xs) in
    let right : length vs ≡ n = ap length second ∙ length-padded n (drop start ys) in
    let both : length (zip2 bit_xor us vs) ≡ n = length-zip2 bit_xor us vs (left ∙ sym right) ∙ left in
    let joined : some_bit k (zip2 bit_or bits (zip2 bit_xor us vs)) ≡ max (some_bit k bits) (unlike k us vs) = some_bit-or k bits (zip2 bit_xor us vs) (lanes ∙ sym both) in
    let block : unlike k us vs ≡ unlike k (padded n (drop start xs)) (padded n (drop start ys)) = λ i. unlike k (first i) (second i) in
    let rests : length (drop start xs) ≡ length (drop start ys) = omega (arith, length-drop start xs, length-drop start ys) in
    let split : max (unlike k (padded n (drop start xs)) (padded n (drop start ys))) (unlike k (drop n (drop start xs)) (drop n (drop start ys))) ≡ unlike k (drop start xs) (drop start ys) = unlike_split k n (drop start xs) (drop start ys) rests in
    let next : unlike k (drop n (drop start xs)) (drop n (drop start ys)) ≡ unlike k (drop (start + n) xs) (drop (start + n) ys) = λ i. unlike k (drop-drop n start xs i) (drop-drop n start ys i) in
    let before : max (some_bit k bits) (unlike k (drop start xs) (drop start ys)) ≡ unlike k xs ys = seen k in
    omega arith

-- at the end each bit of the lanes, taken together, tells whether the rows are unlike in it
pub seen_all : (start : ℕ) (bits xs ys : List ℕ) → length xs ≡ length ys → length xs ≤ start → Seen start bits xs ys
    → (k : ℕ) → bit_at (fold_l bit_or 0 bits) k ≡ unlike k xs ys
seen_all start bits xs ys long past seen k =
    let together : bit_at (fold_l bit_or 0 bits) k ≡ max (bit_at 0 k) (some_bit k bits) = fold_bit k 0 bits in
    let zeroes : bit_at 0 k ≡ 0 = bit_at-zero k in
    let none : unlike k (drop start xs) (drop start ys) ≡ 0 = λ i. unlike k (drop_all start xs past i) (drop_all start ys (omega arith) i) in
    let before : max (some_bit k bits) (unlike k (drop start xs) (drop start ys)) ≡ unlike k xs ys = seen k in
    omega arith

some_bit-lt : (k : ℕ) (xs : List ℕ) → some_bit k xs < 2
some_bit-lt k [] = omega arith
some_bit-lt k (x ∷ xs) = let rest : some_bit k xs < 2 = some_bit-lt k xs in omega (arith, bit_at-lt x k)

-- a set bit has a place
place_of : (k : ℕ) (xs ys : List ℕ) → length xs ≡ length ys → unlike k xs ys ≡ 1 → DifferIn k xs ys
place_of k [] [] long set = absurd (omega arith)
place_of k [] (y ∷ ys) long set = absurd (omega arith)
place_of k (x ∷ xs) [] long set = absurd (omega arith)
place_of k (x ∷ xs) (y ∷ ys) long set =
    let here : bit_at (bit_xor x y) k ≡ (bit_at x k + bit_at y k) % 2 = bit_at_xor x y k in
    ⊎_elim
    (λ (first : bit_at (bit_xor x y) k ≡ 1). (0, omega arith, λ same. omega arith))
    (λ (later : bit_at (bit_xor x y) k ≡ 1 → ⊥).
    let rest : unlike k xs ys ≡ 1 = omega (arith, bit_at-lt (bit_xor x y) k, later) in
    let found = place_of k xs ys (omega arith) rest in
    (suc found.0, omega (arith, found.1), found.2))
    (cases_eq (bit_at (bit_xor x y) k) 1)

-- and a place sets its bit
set_by : (k : ℕ) (xs ys : List ℕ) (place : ℕ) → length xs ≡ length ys → place < length xs
    → (bit_at (get_or xs place 0) k ≡ bit_at (get_or ys place 0) k → ⊥) → unlike k xs ys ≡ 1
set_by k [] ys place long within apart = absurd (omega arith)
set_by k (x ∷ xs) [] place long within apart = absurd (omega arith)
set_by k (x ∷ xs) (y ∷ ys) zero long within apart =
    let here : bit_at (bit_xor x y) k ≡ (bit_at x k + bit_at y k) % 2 = bit_at_xor x y k in
    omega (arith, bit_at-lt x k, bit_at-lt y k, some_bit-lt k (zip2 bit_xor xs ys), apart)
set_by k (x ∷ xs) (y ∷ ys) (suc place) long within apart =
    let rest : unlike k xs ys ≡ 1 = set_by k xs ys place (omega arith) (omega arith) apart in
    omega (arith, bit_at-lt (bit_xor x y) k)

agree_at : (k : ℕ) (xs ys : List ℕ) → length xs ≡ length ys → unlike k xs ys ≡ 0
    → (place : ℕ) → place < length xs → bit_at (get_or xs place 0) k ≡ bit_at (get_or ys place 0) k
agree_at k xs ys long clear place within = ⊎_elim
    (λ same. same)
    (λ apart. absurd (omega (arith, set_by k xs ys place long within apart)))
    (cases_eq (bit_at (get_or xs place 0) k) (bit_at (get_or ys place 0) k))

clear_from : (k : ℕ) (xs ys : List ℕ) → length xs ≡ length ys
    → ((place : ℕ) → place < length xs → bit_at (get_or xs place 0) k ≡ bit_at (get_or ys place 0) k) → unlike k xs ys ≡ 0
clear_from k xs ys long agree = ⊎_elim
    (λ (set : unlike k xs ys ≡ 1). let found = place_of k xs ys long set in absurd (found.2 (agree found.0 found.1)))
    (λ (unset : unlike k xs ys ≡ 1 → ⊥). omega (arith, some_bit-lt k (zip2 bit_xor xs ys), unset))
    (cases_eq (unlike k xs ys) 1)

pub differ_from : (bits : ℕ) (xs ys : List ℕ) → length xs ≡ length ys → ((k : ℕ) → bit_at bits k ≡ unlike k xs ys)
    → (k : ℕ) → (bit_at bits k ≡ 1) ↔ DifferIn k xs ys
differ_from bits xs ys long tells k =
    (λ set. place_of k xs ys long (sym (tells k) ∙ set), λ found. tells k ∙ set_by k xs ys found.0 long found.1 found.2)

pub agree_from : (bits : ℕ) (xs ys : List ℕ) → length xs ≡ length ys → ((k : ℕ) → bit_at bits k ≡ unlike k xs ys)
    → (k : ℕ) → (bit_at bits k ≡ 0) ↔ AgreeIn k xs ys
agree_from bits xs ys long tells k =
    (λ clear. agree_at k xs ys long (sym (tells k) ∙ clear), λ agree. tells k ∙ clear_from k xs ys long agree)

pub same_from : (bits : ℕ) (xs ys : List ℕ) → length xs ≡ length ys → ((k : ℕ) → bit_at bits k ≡ unlike k xs ys)
    → (bits ≡ 0) ↔ (xs ≡ ys)
same_from bits xs ys long tells = (
  (λ none. ext_get_or 0 xs ys long
      (λ place within. same_from_bits (get_or xs place 0) (get_or ys place 0)
      (λ k. (agree_from bits xs ys long tells k).0 (ap (λ n. bit_at n k) none ∙ bit_at-zero k) place within))),
  (λ same. same_from_bits bits 0
      (λ k. (agree_from bits xs ys long tells k).1 (λ place _. ap (λ row. bit_at (get_or row place 0) k) same) ∙ sym (bit_at-zero k))),
)
