-- The sides of a map.
use Rattle.std.specs.Prelude.{ℕ, ◌≤◌}
use Rattle.nav_types.specs.declared.limits.TheConstants.{MAX_SIDE}

-- a side of a map, in navcells
pub record IsSide (side : ℕ) : Type 0 where
  pub some : 1 ≤ side
  pub few : side ≤ MAX_SIDE
