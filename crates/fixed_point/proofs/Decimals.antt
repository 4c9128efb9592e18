-- Decimal digits as raw numbers.
use Rattle.std.proofs.Common.{◌≡◌, ℕ, ◌+◌, ◌-◌, ◌*◌, ◌/◌, ◌^◌, ◌<◌, ◌≤◌, sym, arith, ap, ◌∙◌, lit<}
use Rattle.std.proofs.Math.Nat.{mul-div-mul_right, mul-le-mul_right, mul-add-div_right, one-le-pow}
use Rattle.std.proofs.lemmas.Nat.{pow-add}

pub tens : (places : ℕ) → 0 < 10 ^ places
tens places = let one : 1 ≤ 10 ^ places = one-le-pow places 10 (lit< tt) in omega arith

-- `places` decimals and the rest of sixteen
pub sixteen : (places : ℕ) → places ≤ 16 → 10 ^ 16 ≡ 10 ^ places * 10 ^ (16 - places)
sixteen places few =
    let whole : 16 ≡ places + (16 - places) = omega arith in
    ap (λ k. 10 ^ k) whole ∙ pow-add 10 places (16 - places)

-- 1/65536 is 152587890625 times 10^-16, so what `places` decimals write is cut to a raw number by filling them up to
-- sixteen
pub raw_decimals_is : (n places : ℕ) → places ≤ 16 → n * 10 ^ (16 - places) / 152587890625 ≡ n * 65536 / 10 ^ places
raw_decimals_is n places few =
    let filled = mul-div-mul_right {m = 65536} (n * 10 ^ (16 - places)) 152587890625 (lit< tt) in
    let scaled = mul-div-mul_right {m = 10 ^ (16 - places)} (n * 65536) (10 ^ places) (tens (16 - places)) in
    let turned : n * 10 ^ (16 - places) * 65536 ≡ n * 65536 * 10 ^ (16 - places) = omega arith in
    sym filled ∙ ap (λ m. m / 10 ^ 16) turned ∙ ap (λ m. n * 65536 * 10 ^ (16 - places) / m) (sixteen places few) ∙ scaled

-- sixteen places fit 64 bits
pub filled_fits : (n places : ℕ) → places ≤ 16 → n < 10 ^ places → n * 10 ^ (16 - places) < 10 ^ 16
filled_fits n places few below =
    let positive = tens (16 - places) in
    let grown : (n + 1) * 10 ^ (16 - places) ≤ 10 ^ places * 10 ^ (16 - places) = mul-le-mul_right (10 ^ (16 - places)) (omega arith) in
    rw (sixteen places few) (omega arith)

-- the whole part is not cut
pub cut_is : (whole fraction scale : ℕ) → 0 < scale → (whole * scale + fraction) * 65536 / scale ≡ whole * 65536 + fraction * 65536 / scale
cut_is whole fraction scale positive =
    let spread : (whole * scale + fraction) * 65536 ≡ whole * 65536 * scale + fraction * 65536 = omega arith in
    ap (λ n. n / scale) spread ∙ mul-add-div_right positive (whole * 65536) (fraction * 65536)
