-- The canonical text: how its parts are made, and how long they are.
use Rattle.std.proofs.Common.{cond, ◌≡◌, ℕ, zero, suc, ◌+◌, ◌*◌, ◌/◌, ◌%◌, ◌^◌, ◌<◌, ◌≤◌, Bool, true, false, List, [], ◌∷◌, length, decimal, eqb, arith, ap, refl, length-append}
use Rattle.std.proofs.lemmas.Bool.{cond_both, eqb-true}
use Rattle.std.proofs.lemmas.Fmt.{decimal_step, length-decimal-le}
use Rattle.fixed_point.specs.Text.{fraction_digits, fraction_text}

-- a number of two digits or more is the front of its digits and the last one
pub length_decimal_step : (n : ℕ) → 10 ≤ n → n < 2 ^ 32 → length (decimal n) ≡ length (decimal (n / 10)) + 1
length_decimal_step n big small =
    let e = ap length (decimal_step n big (omega arith)) in
    omega (arith, e, length-append (decimal (n / 10)) ((48 + n % 10) ∷ []))

-- the whole part of a magnitude in range has at most five digits
pub length_whole : (magnitude : ℕ) → magnitude ≤ 2 ^ 31 → length (decimal (magnitude / 65536)) ≤ 5
length_whole magnitude small = length-decimal-le 5 (magnitude / 65536) (omega arith) (omega arith) (omega arith)

pub length_fraction_digits : (most n : ℕ) → length (fraction_digits most n) ≤ most
length_fraction_digits zero n = omega arith
length_fraction_digits (suc most) n =
    cond_both (eqb n 0) [] _ (λ ds. length ds ≤ suc most) (λ _. omega arith)
    (λ _. omega (arith, length_fraction_digits most (n * 10 % 65536)))

pub length_fraction_text : (n : ℕ) → length (fraction_text n) ≤ 17
length_fraction_text n =
    cond_both (eqb n 0) [] _ (λ ds. length ds ≤ 17) (λ _. omega arith)
    (λ _. omega (arith, length_fraction_digits 16 n))

-- the text of a fraction that is not 0
pub fraction_text_some : (n : ℕ) → 0 < n → fraction_text n ≡ 46 ∷ fraction_digits 16 n
fraction_text_some n some =
    cond_both (eqb n 0) [] (46 ∷ fraction_digits 16 n) (λ ds. ds ≡ 46 ∷ fraction_digits 16 n)
    (λ none. absurd (omega (arith, eqb-true n 0 none))) (λ _. refl)

-- at most one byte for the sign
pub length_sign : (negative : Bool) (sign : List ℕ) → sign ≡ cond negative (45 ∷ []) [] → length sign ≤ 1
length_sign true sign e = omega (arith, ap length e)
length_sign false sign e = omega (arith, ap length e)
