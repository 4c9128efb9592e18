-- The steps and the distances of a flow field as numbers.
use Rattle.std.specs.Prelude.{ℕ, Bool, ◌≡◌, ◌<◌, ◌*◌, List, length, drop, slice_index, Option, Some, None}
use Rattle.nav_types.specs.declared.cells.Cell.{Cell}
use Rattle.nav_types.specs.declared.cells.Size.{Size}
use Rattle.nav_types.specs.declared.directions.Dir.{Dir}
use Rattle.nav_types.specs.declared.directions.Dir.TheVariants.{N, E, S, W, NE, SE, SW, NW}
use Rattle.nav_types.specs.Places.{cell_of}
use Rattle.flow_field.specs.Flows.{IsFar, IsNext}
use Rattle.flat_ways.specs.declared.steps.TheConstants.{NO_STEP, ARRIVED, NO_DISTANCE}

-- the number of a direction: its place in the order of preference, from 1
abbrev pub dir_number : Dir → ℕ
dir_number N = 1
dir_number E = 2
dir_number S = 3
dir_number W = 4
dir_number NE = 5
dir_number SE = 6
dir_number SW = 7
dir_number NW = 8

-- the number of a step, by Far and Next of its cell
abbrev pub step_number : Option ℕ → Option Dir → ℕ
step_number None next = NO_STEP
step_number (Some far) None = ARRIVED
step_number (Some far) (Some dir) = dir_number dir

-- the number of a distance, by Far of its cell
abbrev pub distance_number : Option ℕ → ℕ
distance_number None = NO_DISTANCE
distance_number (Some far) = far

-- the number is that of the step to take from the cell
pub record HasStep (passes hit : Cell → Bool) (start cell : Cell) (number : ℕ) : Type 0 where
  pub far : Option ℕ
  pub is_far : IsFar passes hit start cell far
  pub next : Option Dir
  pub is_next : IsNext passes hit start cell next
  pub told : number ≡ step_number far next

-- the number is that of the distance of the cell
pub record HasDistance (passes hit : Cell → Bool) (start cell : Cell) (number : ℕ) : Type 0 where
  pub far : Option ℕ
  pub is_far : IsFar passes hit start cell far
  pub told : number ≡ distance_number far

-- What is told of each cell of the map stands in the buffer, row by row, as far as that reaches; what lies behind them stays.
pub record AreTold (Tells : Cell → ℕ → Type 0) (size : Size) (before after : List ℕ) : Type 0 where
  pub told : (place : ℕ) → place < length before → place < size.w * size.h → Tells (cell_of size place) (slice_index after place)
  pub behind : drop (size.w * size.h) after ≡ drop (size.w * size.h) before
