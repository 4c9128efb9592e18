-- Reading a number digit by digit.
use Rattle.std.proofs.Common.{◌≡◌, ℕ, ◌^◌, ◌<◌, ◌≤◌, List, drop, arith, lit<}
use Rattle.std.proofs.Math.Nat.{pow-le-pow_right}
use Rattle.std.specs.Str.{all_ascii_digits}
use Rattle.std.specs.Str.Parse.{digits_value, digits_value_after}

-- number is what the first i bytes write: what is left continues it, and is all digits exactly where the whole text is
pub record Reads (text : List ℕ) (i number : ℕ) : Type 0 where
  pub value : digits_value_after 10 number (drop i text) ≡ digits_value 10 text
  pub digits : all_ascii_digits (drop i text) ≡ all_ascii_digits text
  pub bound : number < 10 ^ i

-- a number of at most fifteen digits has room for one more
pub room : (i number : ℕ) → i < 16 → number < 10 ^ i → number < 10 ^ 15
room i number short bound =
    let few : i ≤ 15 = omega arith in
    let fits : 10 ^ i ≤ 10 ^ 15 = pow-le-pow_right (lit< tt) few in
    omega arith
