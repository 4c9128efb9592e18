-- Where runs of legal steps in one direction stop: jump points, after Harabor and Grastien, "Online Graph Pruning for
-- Pathfinding on Grid Maps", AAAI 2011.
use Rattle.std.specs.Prelude.{ℕ, Bool, ◌<◌, ◌≤◌, ◌⊎◌, replicate, IsTrue}
use Rattle.nav_types.specs.declared.cells.Cell.{Cell}
use Rattle.nav_types.specs.declared.directions.Dir.{Dir}
use Rattle.nav_types.specs.Directions.{row_part, column_part}
use Rattle.nav_types.specs.Walks.{IsWalk}
use Rattle.jump_scan.specs.Successors.{HasForced}

-- so many legal steps in the direction lead from one cell to the other
abbrev pub IsRun : (Cell → Bool) → Dir → ℕ → Cell → Cell → Type 0
IsRun passes dir count from to = IsWalk passes from (replicate count dir) to

-- the first cell after the one where the run begins at which it halts
pub record IsStop (passes : Cell → Bool) (Halts : Cell → Type 0) (dir : Dir) (from stop : Cell) : Type 0 where
  pub count : ℕ
  pub some : 0 < count
  pub run : IsRun passes dir count from stop
  pub halts : Halts stop
  pub first : (fewer : ℕ) (cell : Cell) → 0 < fewer → fewer < count → IsRun passes dir fewer from cell → Halts cell → ⊥

-- a straight run halts at a cell that is hit or has a forced successor
abbrev pub HaltsStraight : (Cell → Bool) → (Cell → Bool) → Dir → Cell → Type 0
HaltsStraight passes hit dir cell = IsTrue (hit cell) ⊎ HasForced passes cell dir

-- the stop of a straight run
abbrev pub IsStraightStop : (Cell → Bool) → (Cell → Bool) → Dir → Cell → Cell → Type 0
IsStraightStop passes hit dir from stop = IsStop passes (HaltsStraight passes hit dir) dir from stop

-- the straight run from the cell has a stop
abbrev pub HasStraightStop : (Cell → Bool) → (Cell → Bool) → Dir → Cell → Type 0
HasStraightStop passes hit dir from = (stop : Cell) × IsStraightStop passes hit dir from stop

-- a diagonal run halts at a cell that is hit or from which the straight run in one of its two straight parts has a stop
abbrev pub HaltsDiagonal : (Cell → Bool) → (Cell → Bool) → Dir → Cell → Type 0
HaltsDiagonal passes hit dir cell = IsTrue (hit cell)
    ⊎ (HasStraightStop passes hit (row_part dir) cell ⊎ HasStraightStop passes hit (column_part dir) cell)

-- the stop of a diagonal run
abbrev pub IsDiagonalStop : (Cell → Bool) → (Cell → Bool) → Dir → Cell → Cell → Type 0
IsDiagonalStop passes hit dir from stop = IsStop passes (HaltsDiagonal passes hit dir) dir from stop

-- the stop of a diagonal run, after at most so many steps
abbrev pub IsDiagonalStopWithin : (Cell → Bool) → (Cell → Bool) → Dir → ℕ → Cell → Cell → Type 0
IsDiagonalStopWithin passes hit dir most from stop =
    (is : IsDiagonalStop passes hit dir from stop) × (is.count ≤ most)
