-- How fast lengths along and across a unit vector grow along the steps of a walk.
use Rattle.std.specs.Prelude.{ℕ, ◌+◌, ◌*◌, ◌^◌, ◌≤◌, ℤ, unsigned_abs}
use Rattle.nav_types.specs.declared.limits.TheConstants.{STRAIGHT_COST, DIAGONAL_COST}

-- No step makes a length along or across the unit vector grow by more than the gain times what the step costs. Lengths are
-- raw numbers times 65536, so that a column or a row is 65536 times a component of the vector.
pub record IsGain (ux uz : ℤ) (gain : ℕ) : Type 0 where
  pub column : 65536 * unsigned_abs ux ≤ gain * STRAIGHT_COST
  pub row : 65536 * unsigned_abs uz ≤ gain * STRAIGHT_COST
  pub both : 65536 * (unsigned_abs ux + unsigned_abs uz) ≤ gain * DIAGONAL_COST
  pub large : 2 ^ 15 ≤ gain
