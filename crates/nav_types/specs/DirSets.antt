-- Sets of directions.
use Rattle.std.specs.Prelude.{ℕ, Bool, ◌==◌, ◌+◌, ◌-◌, if◌then◌else◌}
use Rattle.std.specs.Int.{bit_at}
use Rattle.nav_types.specs.declared.directions.Dir.{Dir}
use Rattle.nav_types.specs.declared.directions.Dir.TheVariants.{N, E, S, W, NE, SE, SW, NW}
use Rattle.nav_types.specs.declared.directions.DirSet.{DirSet}
use Rattle.nav_types.specs.Directions.{east, west, north, south}

-- where the cell in that direction stands among the nine about one, row by row from the north-west
abbrev pub spot_of : Dir → ℕ
spot_of NW = 0
spot_of N = 1
spot_of NE = 2
spot_of W = 3
spot_of E = 5
spot_of SW = 6
spot_of S = 7
spot_of SE = 8

-- whether the set has the direction: the bit of its spot is set
abbrev pub holds : DirSet → Dir → Bool
holds set dir = bit_at set.bits (spot_of dir) == 1

-- whether the cell in that direction is set in three rows of three cells about one, from the north row to the south one,
-- each with its west cell at bit 0
abbrev pub is_set_towards : Dir → ℕ → ℕ → ℕ → Bool
is_set_towards dir northern middle southern =
    bit_at (if north dir == 1 then northern else (if south dir == 1 then southern else middle)) (1 + east dir - west dir) == 1
