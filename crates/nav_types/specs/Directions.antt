-- What a direction is: how far it goes in each of the four straight ones, and what its step costs.
use Rattle.std.specs.Prelude.{ℕ, Bool, true, false, ◌≡◌, ◌+◌}
use Rattle.nav_types.specs.declared.limits.TheConstants.{STRAIGHT_COST, DIAGONAL_COST}
use Rattle.nav_types.specs.declared.cells.Cell.{Cell}
use Rattle.nav_types.specs.declared.directions.Dir.{Dir}
use Rattle.nav_types.specs.declared.directions.Dir.TheVariants.{N, E, S, W, NE, SE, SW, NW}

-- columns gained by a step
abbrev pub east : Dir → ℕ
east E = 1
east NE = 1
east SE = 1
east _ = 0

-- columns lost by a step
abbrev pub west : Dir → ℕ
west W = 1
west SW = 1
west NW = 1
west _ = 0

-- rows gained by a step
abbrev pub north : Dir → ℕ
north N = 1
north NE = 1
north NW = 1
north _ = 0

-- rows lost by a step
abbrev pub south : Dir → ℕ
south S = 1
south SE = 1
south SW = 1
south _ = 0

-- N, E, S and W are straight, the others are diagonal
abbrev pub is_straight : Dir → Bool
is_straight NE = false
is_straight SE = false
is_straight SW = false
is_straight NW = false
is_straight _ = true

-- the direction back
abbrev pub opposite : Dir → Dir
opposite N = S
opposite E = W
opposite S = N
opposite W = E
opposite NE = SW
opposite SE = NW
opposite SW = NE
opposite NW = SE

-- the straight part of a direction along the row, and along the column; a straight direction is both
abbrev pub row_part : Dir → Dir
row_part NE = E
row_part SE = E
row_part SW = W
row_part NW = W
row_part dir = dir

abbrev pub column_part : Dir → Dir
column_part NE = N
column_part SE = S
column_part SW = S
column_part NW = N
column_part dir = dir

-- the cost of one step
abbrev pub step_cost : Dir → ℕ
step_cost NE = DIAGONAL_COST
step_cost SE = DIAGONAL_COST
step_cost SW = DIAGONAL_COST
step_cost NW = DIAGONAL_COST
step_cost _ = STRAIGHT_COST

-- one step in the direction leads from one cell to the other
pub record Leads (dir : Dir) (from to : Cell) : Type 0 where
  pub columns : to.i + west dir ≡ from.i + east dir
  pub rows : to.j + south dir ≡ from.j + north dir
