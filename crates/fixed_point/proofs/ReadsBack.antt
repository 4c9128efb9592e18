-- The canonical text of a raw number in range is in the grammar, writes it exactly, and has it as its value.
use Rattle.std.proofs.Common.{◌≡◌, ◌≢◌, ℕ, zero, suc, ◌+◌, ◌-◌, ◌*◌, ◌/◌, ◌%◌, ◌^◌, ◌<◌, ◌≤◌, Bool, true, false, ◌&&◌, ◌||◌, not, inl, inr, List, [], ◌∷◌, ◌++◌, length, take, drop, get_or, Option, Some, ℤ, pos, negsuc, unsigned_abs, decimal, eqb, leb, cond, refl, sym, ap, ◌∙◌, subst, arith, IsTrue, FitsSigned}
use Rattle.std.proofs.Math.Nat.{mul-div_cancel, pow-suc}
use Rattle.std.proofs.Math.Seq.{take-append_seam, drop-append_seam}
use Rattle.std.proofs.lemmas.Bool.{cond_both, eq-eqb, eqb-true, eqb-false, and_from, and_parts, or_left, or_right, not_from_false, false≢true, cond-true, cases_eq, ne_eqb, le-leb, le-ltb}
use Rattle.std.proofs.lemmas.Bool.Decides.{nat_tests}
use Rattle.std.proofs.lemmas.Fmt.{digits_decimal, digits_value-decimal, decimal_nonempty, first_decimal, decimal_digit}
use Rattle.std.proofs.lemmas.Str.Parse.{numerals_by_value, tells_all_ascii_digits}
use Rattle.std.specs.Char.{is_ascii_digit, digit_value}
use Rattle.std.specs.Int.{w32}
use Rattle.std.specs.List.{prefix_len}
use Rattle.std.specs.Str.{all_ascii_digits}
use Rattle.std.specs.Str.Parse.{digits_value, digits_value_after, starts_with_minus}
use Rattle.fixed_point.specs.Raw.{is_in_range}
use Rattle.fixed_point.specs.Text.{fraction_digits, fraction_text, fixed_text, fixed_value, is_fixed_text, is_whole_part, is_fraction_part, is_magnitude, magnitude_of, unsigned_text, whole_digits, from_point, decimals, signed, some_if, WritesExactly, EndsInNoZero}
use Rattle.fixed_point.proofs.Canonical.{length_whole, length_fraction_digits}
use Rattle.fixed_point.proofs.Decimals.{tens}

-- ---- the digits of the fraction

pub digit_is : (d : ℕ) → d < 10 → (is_ascii_digit (48 + d) ≡ true) × (digit_value (48 + d) ≡ d)
digit_is d low = grind (arith, nat_tests)

-- what stands in front of digits weighs ten to their number
pub after_is : (n : ℕ) (ds : List ℕ) → digits_value_after 10 n ds ≡ n * 10 ^ length ds + digits_value 10 ds
after_is n [] = omega arith
after_is n (c ∷ cs) =
    omega (arith, after_is (n * 10 + digit_value c) cs, after_is (0 + digit_value c) cs, ap (λ p. n * p) (pow-suc 10 (length cs)))

pub all_fraction_digits : (most n : ℕ) → n < 65536 → all_ascii_digits (fraction_digits most n) ≡ true
all_fraction_digits zero n below = refl
all_fraction_digits (suc most) n below =
    cond_both (eqb n 0) [] _ (λ ds. all_ascii_digits ds ≡ true) (λ _. refl)
    (λ _. and_from _ _ (digit_is (n * 10 / 65536) (omega arith)).0 (all_fraction_digits most (n * 10 % 65536) (omega arith)))

-- one step of the division, on what is left to divide
pub left_is : (n d m p t : ℕ) → n * 10 ≡ d * 65536 + m → n * (p * 10) ≡ 65536 * t → m * p ≡ 65536 * (t - d * p)
left_is n d m p t division whole = omega (arith, ap (λ x. x * p) division)

-- and on the digits
pub step_is : (n d m q v w : ℕ) → n * 10 ≡ d * 65536 + m → v * 65536 ≡ m * q → w ≡ d * q + v → w * 65536 ≡ n * (q * 10)
step_is n d m q v w division rest sum = omega (arith, ap (λ x. x * q) division)

-- the digits write n/65536 where that has at most `most` decimals
pub fraction_is_exact : (most n t : ℕ) → n < 65536 → n * 10 ^ most ≡ 65536 * t
    → digits_value 10 (fraction_digits most n) * 65536 ≡ n * 10 ^ length (fraction_digits most n)
fraction_is_exact zero n t below whole = omega arith
fraction_is_exact (suc most) n t below whole =
    let d = n * 10 / 65536 in
    let m = n * 10 % 65536 in
    let ds = fraction_digits most m in
    let division : n * 10 ≡ d * 65536 + m = omega arith in
    let left = left_is n d m (10 ^ most) t division (ap (λ p. n * p) (sym (pow-suc 10 most)) ∙ whole) in
    let rest = fraction_is_exact most m (t - d * 10 ^ most) (omega arith) left in
    let sum : digits_value 10 ((48 + d) ∷ ds) ≡ d * 10 ^ length ds + digits_value 10 ds =
    after_is (0 + digit_value (48 + d)) ds ∙ ap (λ x. x * 10 ^ length ds + digits_value 10 ds) (omega (arith, (digit_is d (omega arith)).1)) in
    cond_both (eqb n 0) [] ((48 + d) ∷ ds) (λ xs. digits_value 10 xs * 65536 ≡ n * 10 ^ length xs) (λ e. omega (arith, eqb-true n 0 e))
    (λ _. step_is n d m (10 ^ length ds) (digits_value 10 ds) _ division rest sum ∙ ap (λ p. n * p) (sym (pow-suc 10 (length ds))))

-- a digit before others that end in no zero, or a digit above 0 alone
pub step_shortest : (d : ℕ) (ds : List ℕ) → (ds ≡ [] → 0 < d) → EndsInNoZero ds → get_or ((48 + d) ∷ ds) (length ds) 0 ≢ 48
step_shortest d [] alone rest = λ e. let same : 48 + d ≡ 48 = e in omega (arith, alone refl)
step_shortest d (c ∷ cs) alone rest = λ e.
    let last : suc (length cs) - 1 ≡ length cs = omega arith in
    rest (λ empty. cc) (ap (λ k. get_or (c ∷ cs) k 0) last ∙ e)

-- the digits of n/65536 end in no zero where that has at most `most` decimals
pub fraction_is_shortest : (most n t : ℕ) → n < 65536 → n * 10 ^ most ≡ 65536 * t → EndsInNoZero (fraction_digits most n)
fraction_is_shortest zero n t below whole = λ some. absurd (some refl)
fraction_is_shortest (suc most) n t below whole =
    let d = n * 10 / 65536 in
    let m = n * 10 % 65536 in
    let ds = fraction_digits most m in
    let division : n * 10 ≡ d * 65536 + m = omega arith in
    let u = t - d * 10 ^ most in
    let left = left_is n d m (10 ^ most) t division (ap (λ p. n * p) (sym (pow-suc 10 most)) ∙ whole) in
    let exact = fraction_is_exact most m u (omega arith) left in
    let rest = fraction_is_shortest most m u (omega arith) left in
    let last : suc (length ds) - 1 ≡ length ds = omega arith in
    cond_both (eqb n 0) [] ((48 + d) ∷ ds) EndsInNoZero (λ _ some. absurd (some refl))
    (λ more _ e. step_shortest d ds
    (λ empty. omega (arith, subst (λ xs. digits_value 10 xs * 65536 ≡ m * 10 ^ length xs) empty exact, eqb-false n 0 more))
    rest (ap (λ k. get_or ((48 + d) ∷ ds) k 0) (sym last) ∙ e))

-- ---- the parts of an unsigned text

pub prefix_of_digits : (ds rest : List ℕ) → all_ascii_digits ds ≡ true → prefix_len is_ascii_digit rest ≡ 0 → prefix_len is_ascii_digit (ds ++ rest) ≡ length ds
prefix_of_digits [] rest digits none = none
prefix_of_digits (c ∷ cs) rest digits none =
    let parts = and_parts (is_ascii_digit c) (all_ascii_digits cs) digits in
    cond-true (is_ascii_digit c) (1 + prefix_len is_ascii_digit (cs ++ rest)) 0 parts.0
    ∙ omega (arith, prefix_of_digits cs rest parts.1 none)

pub whole_digits_are : (ds rest : List ℕ) → all_ascii_digits ds ≡ true → prefix_len is_ascii_digit rest ≡ 0 → whole_digits (ds ++ rest) ≡ ds
whole_digits_are ds rest digits none =
    ap (λ k. take k (ds ++ rest)) (prefix_of_digits ds rest digits none) ∙ take-append_seam ds rest

pub rest_is : (ds rest : List ℕ) → all_ascii_digits ds ≡ true → prefix_len is_ascii_digit rest ≡ 0 → from_point (ds ++ rest) ≡ rest
rest_is ds rest digits none =
    ap (λ w. drop (length w) (ds ++ rest)) (whole_digits_are ds rest digits none) ∙ drop-append_seam ds rest

pub no_minus : (ds rest : List ℕ) → all_ascii_digits ds ≡ true → 0 < length ds → starts_with_minus (ds ++ rest) ≡ false
no_minus [] rest digits some = absurd (omega arith)
no_minus (c ∷ cs) rest digits some =
    let digit = (and_parts (is_ascii_digit c) (all_ascii_digits cs) digits).0 in
    ne_eqb c 45 (λ e. false≢true (ap is_ascii_digit (sym e) ∙ digit))

-- ---- the parts of a canonical text

pub no_digit_in_front : (n : ℕ) → prefix_len is_ascii_digit (fraction_text n) ≡ 0
no_digit_in_front n = cond_both (eqb n 0) [] _ (λ xs. prefix_len is_ascii_digit xs ≡ 0) (λ _. refl) (λ _. refl)

-- without its point, a fraction's text is its digits
pub drop_point : (none : Bool) (xs : List ℕ) → drop 1 (cond none [] (46 ∷ cond none [] xs)) ≡ cond none [] xs
drop_point true xs = refl
drop_point false xs = refl

pub after_point : (n : ℕ) → drop 1 (fraction_text n) ≡ fraction_digits 16 n
after_point n = drop_point (eqb n 0) ((48 + n * 10 / 65536) ∷ fraction_digits 15 (n * 10 % 65536))

pub one_or_more : (none : Bool) (x : ℕ) (xs : List ℕ) → none ≡ false → leb 1 (length (cond none [] (x ∷ xs))) ≡ true
one_or_more true x xs e = cc
one_or_more false x xs e = le-leb 1 (length (x ∷ xs)) (omega arith)

pub fraction_part_is : (n : ℕ) → n < 65536 → is_fraction_part (fraction_text n) ≡ true
fraction_part_is n below =
    cond_both (eqb n 0) [] (46 ∷ fraction_digits 16 n) (λ xs. is_fraction_part xs ≡ true) (λ _. refl)
    (λ some. and_from _ _ (and_from _ _ (all_fraction_digits 16 n below)
    (one_or_more (eqb n 0) (48 + n * 10 / 65536) (fraction_digits 15 (n * 10 % 65536)) some))
    (le-leb (length (fraction_digits 16 n)) 16 (length_fraction_digits 16 n)))

pub no_leading_zero : (n : ℕ) → n < 2 ^ 32 → (eqb (length (decimal n)) 1 || not (eqb (get_or (decimal n) 0 0) 48)) ≡ true
no_leading_zero n small = elim (cases_eq n 0) [
  | inl none ↦ or_left _ _ (eq-eqb (length (decimal n)) 1 (ap length (decimal_digit n (omega arith))))
  | inr some ↦ or_right _ _ (not_from_false _ (ne_eqb (get_or (decimal n) 0 0) 48
      (λ e. absurd (omega (arith, first_decimal n (omega arith) (omega arith), e)))))
]

-- the digits of the whole part
pub whole_part_is : (m : ℕ) → m ≤ 2 ^ 31 → is_whole_part (decimal (m / 65536)) ≡ true
whole_part_is m small = let n = m / 65536 in
    and_from _ _ (and_from _ _ (and_from _ _ (digits_decimal (numerals_by_value _ tells_all_ascii_digits) n (omega arith))
    (le-leb 1 _ (decimal_nonempty n (omega arith)))) (le-leb _ 5 (length_whole m small))) (no_leading_zero n (omega arith))

-- ---- canonical texts

-- the canonical text of a magnitude
abbrev pub unsigned_canonical : ℕ → List ℕ
unsigned_canonical m = decimal (m / 65536) ++ fraction_text (m % 65536)

pub all_digits : (n : ℕ) → n < 2 ^ 32 → all_ascii_digits (decimal n) ≡ true
all_digits n small = digits_decimal (numerals_by_value _ tells_all_ascii_digits) n (omega arith)

pub whole_of : (m : ℕ) → m ≤ 2 ^ 31 → whole_digits (unsigned_canonical m) ≡ decimal (m / 65536)
whole_of m small = whole_digits_are (decimal (m / 65536)) (fraction_text (m % 65536)) (all_digits (m / 65536) (omega arith)) (no_digit_in_front (m % 65536))

pub fraction_of : (m : ℕ) → m ≤ 2 ^ 31 → from_point (unsigned_canonical m) ≡ fraction_text (m % 65536)
fraction_of m small = rest_is (decimal (m / 65536)) (fraction_text (m % 65536)) (all_digits (m / 65536) (omega arith)) (no_digit_in_front (m % 65536))

pub decimals_of : (m : ℕ) → m ≤ 2 ^ 31 → decimals (unsigned_canonical m) ≡ fraction_digits 16 (m % 65536)
decimals_of m small = ap (drop 1) (fraction_of m small) ∙ after_point (m % 65536)

pub no_sign : (m : ℕ) → m ≤ 2 ^ 31 → starts_with_minus (unsigned_canonical m) ≡ false
no_sign m small = no_minus (decimal (m / 65536)) (fraction_text (m % 65536)) (all_digits (m / 65536) (omega arith)) (decimal_nonempty (m / 65536) (omega arith))

pub magnitude_is_written : (m : ℕ) → m ≤ 2 ^ 31 → is_magnitude (unsigned_canonical m) ≡ true
magnitude_is_written m small =
    ap (λ p. is_whole_part p && is_fraction_part (from_point (unsigned_canonical m))) (whole_of m small)
    ∙ ap (λ p. is_whole_part (decimal (m / 65536)) && is_fraction_part p) (fraction_of m small)
    ∙ and_from _ _ (whole_part_is m small) (fraction_part_is (m % 65536) (omega arith))

-- digits before the point and after it write the raw number m exactly
abbrev pub Writes : List ℕ → List ℕ → ℕ → Type 0
Writes whole fraction m = (digits_value 10 whole * 10 ^ length fraction + digits_value 10 fraction) * 65536 ≡ m * 10 ^ length fraction

pub sum_is : (w r m q v : ℕ) → m ≡ w * 65536 + r → v * 65536 ≡ r * q → (w * q + v) * 65536 ≡ m * q
sum_is w r m q v parts fraction = omega (arith, ap (λ x. x * q) parts)

pub written_exactly : (m : ℕ) → m ≤ 2 ^ 31 → Writes (whole_digits (unsigned_canonical m)) (decimals (unsigned_canonical m)) m
written_exactly m small =
    let r = m % 65536 in
    let fraction = fraction_is_exact 16 r (r * 152587890625) (omega arith) (omega arith) in
    let whole = digits_value-decimal (numerals_by_value _ tells_all_ascii_digits) (m / 65536) (omega arith) in
    let exact : Writes (decimal (m / 65536)) (fraction_digits 16 r) m =
    sum_is (digits_value 10 (decimal (m / 65536))) r m (10 ^ length (fraction_digits 16 r)) (digits_value 10 (fraction_digits 16 r)) (omega arith) fraction in
    subst (λ p. Writes p (decimals (unsigned_canonical m)) m) (sym (whole_of m small))
    (subst (λ p. Writes (decimal (m / 65536)) p m) (sym (decimals_of m small)) exact)

pub magnitude_of_written : (m : ℕ) → m ≤ 2 ^ 31 → magnitude_of (unsigned_canonical m) ≡ m
magnitude_of_written m small =
    let scale = 10 ^ length (decimals (unsigned_canonical m)) in
    ap (λ n. n / scale) (written_exactly m small) ∙ mul-div_cancel m (tens (length (decimals (unsigned_canonical m))))

-- the value of an unsigned text with a sign before it
abbrev pub value_by : Bool → List ℕ → Option ℤ
value_by negative unsigned = let raw = signed negative (magnitude_of unsigned) in some_if (is_magnitude unsigned && is_in_range raw) raw

pub value_is : (negative : Bool) (m : ℕ) (raw : ℤ) → m ≤ 2 ^ 31 → signed negative m ≡ raw → is_in_range raw ≡ true
    → value_by negative (unsigned_canonical m) ≡ Some raw
value_is negative m raw small sign range =
    let unsigned = unsigned_canonical m in
    let raw_of_text = signed negative (magnitude_of unsigned) in
    ap (λ b. some_if (b && is_in_range raw_of_text) raw_of_text) (magnitude_is_written m small)
    ∙ ap (λ n. some_if (is_in_range (signed negative n)) (signed negative n)) (magnitude_of_written m small)
    ∙ ap (λ z. some_if (is_in_range z) z) sign
    ∙ ap (λ b. some_if b raw) range

pub negative_text : (n : ℕ) → fixed_text (negsuc n) ≡ 45 ∷ unsigned_canonical (suc n)
unfolding fixed_text
negative_text n = refl

pub positive_text : (n : ℕ) → fixed_text (pos n) ≡ unsigned_canonical n
unfolding fixed_text
positive_text n = ap (λ b. cond b (45 ∷ []) [] ++ decimal (n / 65536) ++ fraction_text (n % 65536)) (le-ltb n 0 (omega arith))

-- the unsigned text of a canonical one
pub unsigned_is : (raw : ℤ) → FitsSigned w32 raw → unsigned_text (fixed_text raw) ≡ unsigned_canonical (unsigned_abs raw)
unsigned_is (pos n) fits =
    ap unsigned_text (positive_text n) ∙ ap (λ b. cond b (drop 1 (unsigned_canonical n)) (unsigned_canonical n)) (no_sign n (omega arith))
unsigned_is (negsuc n) fits = ap unsigned_text (negative_text n)

pub reads_back : (raw : ℤ) → FitsSigned w32 raw → fixed_value (fixed_text raw) ≡ Some raw
unfolding fixed_value is_fixed_text
reads_back (pos n) fits =
    ap fixed_value (positive_text n)
    ∙ ap (λ b. value_by b (cond b (drop 1 (unsigned_canonical n)) (unsigned_canonical n))) (no_sign n (omega arith))
    ∙ value_is false n (pos n) (omega arith) refl (and_from _ _ refl (le-leb n 2147483647 (omega arith)))
reads_back (negsuc n) fits =
    ap fixed_value (negative_text n)
    ∙ value_is true (suc n) (negsuc n) (omega arith) refl (and_from _ _ (le-leb n 2147483647 (omega arith)) refl)

pub magnitude_small : (raw : ℤ) → FitsSigned w32 raw → unsigned_abs raw ≤ 2 ^ 31
magnitude_small (pos n) fits = omega arith
magnitude_small (negsuc n) fits = omega arith

pub is_in_grammar : (raw : ℤ) → FitsSigned w32 raw → IsTrue (is_fixed_text (fixed_text raw))
unfolding is_fixed_text
is_in_grammar raw fits = ap is_magnitude (unsigned_is raw fits) ∙ magnitude_is_written (unsigned_abs raw) (magnitude_small raw fits)

pub is_exact : (raw : ℤ) → FitsSigned w32 raw → WritesExactly raw (fixed_text raw)
is_exact raw fits =
    subst (λ u. Writes (whole_digits u) (decimals u) (unsigned_abs raw)) (sym (unsigned_is raw fits)) (written_exactly (unsigned_abs raw) (magnitude_small raw fits))

pub is_shortest : (raw : ℤ) → FitsSigned w32 raw → EndsInNoZero (decimals (unsigned_text (fixed_text raw)))
is_shortest raw fits =
    let r = unsigned_abs raw % 65536 in
    subst EndsInNoZero (sym (ap decimals (unsigned_is raw fits) ∙ decimals_of (unsigned_abs raw) (magnitude_small raw fits)))
    (fraction_is_shortest 16 r (r * 152587890625) (omega arith) (omega arith))
