use Rattle.std.proofs.Common.{ℕ, ◌+◌, ◌*◌, ◌^◌, ◌≤◌, inl, inr, arith}
use Rattle.std.specs.Prelude.{unsigned_abs}
use Rattle.std.proofs.lemmas.Bool.{cases_lt}
use Rattle.std.proofs.Math.Nat.{mul-le-mul}
use Rattle.jump_search.proofs.rooms.gain_of.Goals as goal

-- one component of a unit vector is large
large : (m n gain : ℕ) → 2 ^ 32 ≤ m * m + n * n + 2 ^ 25 → m ≤ gain → n ≤ gain → 2 ^ 15 ≤ gain
large m n gain long columns rows = elim (cases_lt gain 32768) [
  | inl less ↦ (
      let a : m ≤ 32767 = omega (arith, less, columns) in let b : n ≤ 32767 = omega (arith, less, rows) in
      let one : m * m ≤ 32767 * 32767 = mul-le-mul a a in let other : n * n ≤ 32767 * 32767 = mul-le-mul b b in
      absurd (omega (arith, one, other, long)))
  | inr more ↦ more
]

pub returns : goal.returns
returns c =
    let ux = c.magnitude-columns.ensures.value in let uz = c.magnitude-rows.ensures.value in
    let m = unsigned_abs c.args.ux in let n = unsigned_abs c.args.uz in
    record {
      column = omega arith;
      row = omega arith;
      both = omega arith;
      large = large m n _ c.requires.long (omega arith) (omega arith);
    }
