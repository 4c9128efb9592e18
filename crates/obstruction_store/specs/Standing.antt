-- The standing obstructions of a map, each under its number.
use Rattle.std.specs.Prelude.{◌≡◌, ℕ, ℤ, Option, None, Some, IsSome}
use Rattle.std.specs.Ordering.{nat_cmp}
use Rattle.std.specs.FinMap as map
use Rattle.nav_types.specs.declared.cells.Size.{Size}
use Rattle.nav_types.specs.declared.limits.TheConstants.{MAX_OBSTRUCTIONS}
use Rattle.obstruction_shapes.specs.declared.shapes.Obstruction.{Obstruction}
use Rattle.obstruction_shapes.specs.Shapes.{FitsMap, moved_to}

-- the standing obstructions: a finite map from number to obstruction
abbrev pub Standing : Type 0
Standing = map.FinMap nat_cmp Obstruction

-- an obstruction stands under the number
abbrev pub Stands : Standing → ℕ → Type 0
Stands standing number = IsSome (map.get standing number)

-- as many obstructions stand as may at one time
abbrev pub IsFull : Standing → Type 0
IsFull standing = map.len standing ≡ MAX_OBSTRUCTIONS

-- what stands once the obstruction that was found under the number, if there was one, has the middle of its shape at (x, z),
-- which are raw numbers, and its old mask
abbrev pub with_placed : Standing → ℕ → ℤ → ℤ → Option Obstruction → Standing
with_placed standing number x z None = standing
with_placed standing number x z (Some found) = map.insert standing number (record found { shape = moved_to found.shape x z })

-- what stands after a move of the obstruction of that number to (x, z)
abbrev pub moved : Standing → ℕ → ℤ → ℤ → Standing
moved standing number x z = with_placed standing number x z (map.get standing number)

-- each standing shape fits a map of this size
pub record AllFit (size : Size) (standing : Standing) : Type 0 where
  pub each : (number : ℕ) (obstruction : Obstruction) → map.get standing number ≡ Some obstruction
      → FitsMap size obstruction.shape
