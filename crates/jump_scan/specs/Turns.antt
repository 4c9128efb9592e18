-- Directions beside a direction.
use Rattle.std.specs.Prelude.{◌≡◌, ◌⊎◌}
use Rattle.nav_types.specs.declared.directions.Dir.{Dir}
use Rattle.nav_types.specs.declared.directions.Dir.TheVariants.{N, E, S, W, NE, SE, SW, NW}
use Rattle.nav_types.specs.Directions.{row_part, column_part}
use Rattle.jump_scan.specs.declared.turns.Side.{Side}
use Rattle.jump_scan.specs.declared.turns.Side.TheVariants.{Left, Right}

-- an eighth of a turn to the side: from N it is NW to the left, NE to the right
abbrev pub ahead_to : Side → Dir → Dir
ahead_to Left N = NW
ahead_to Left NW = W
ahead_to Left W = SW
ahead_to Left SW = S
ahead_to Left S = SE
ahead_to Left SE = E
ahead_to Left E = NE
ahead_to Left NE = N
ahead_to Right N = NE
ahead_to Right NE = E
ahead_to Right E = SE
ahead_to Right SE = S
ahead_to Right S = SW
ahead_to Right SW = W
ahead_to Right W = NW
ahead_to Right NW = N

-- a quarter of a turn to the side: from N it is W to the left, E to the right
abbrev pub aside_to : Side → Dir → Dir
aside_to side dir = ahead_to side (ahead_to side dir)

-- the direction of the step before, or a straight part of it
abbrev pub IsNatural : Dir → Dir → Type 0
IsNatural arrived dir = (dir ≡ arrived) ⊎ ((dir ≡ row_part arrived) ⊎ (dir ≡ column_part arrived))

-- an eighth or a quarter of a turn to the side
abbrev pub IsTurn : Side → Dir → Dir → Type 0
IsTurn side arrived dir = (dir ≡ ahead_to side arrived) ⊎ (dir ≡ aside_to side arrived)
