-- Room for the digits of a number.
use Rattle.std.proofs.Common.{ℕ, ◌^◌, ◌<◌, ◌≤◌, arith, lit<}
use Rattle.std.proofs.Math.Nat.{pow-le-pow_right}

-- a number of at most nineteen digits has room for one more
pub room : (i number : ℕ) → i < 20 → number < 10 ^ i → number < 10 ^ 19
room i number short bound =
    let few : i ≤ 19 = omega arith in
    let fits : 10 ^ i ≤ 10 ^ 19 = pow-le-pow_right (lit< tt) few in
    omega arith
