-- The jump states of a search, after Harabor and Grastien, "Online Graph Pruning for Pathfinding on Grid Maps", AAAI
-- 2011.
use Rattle.std.specs.Prelude.{ℕ, Bool, ◌≡◌, ◌+◌, ◌-◌, ◌*◌, ◌≤◌, ◌⊎◌, List, [], ◌∷◌, None, Some, IsTrue, IsFalse, min}
use Rattle.std.specs.Prelude.{max}
use Rattle.nav_types.specs.declared.limits.TheConstants.{STRAIGHT_COST, DIAGONAL_COST}
use Rattle.nav_types.specs.declared.cells.Cell.{Cell}
use Rattle.nav_types.specs.declared.cells.Rect.{Rect}
use Rattle.nav_types.specs.declared.cells.Size.{Size}
use Rattle.nav_types.specs.declared.directions.Dir.{Dir}
use Rattle.nav_types.specs.Counting.{Counts}
use Rattle.nav_types.specs.Directions.{is_straight}
use Rattle.nav_types.specs.Frames.{IsFrame}
use Rattle.nav_types.specs.Walks.{CanReach}
use Rattle.walks.specs.Chosen.{IsAnswer}
use Rattle.jump_scan.specs.Stops.{IsStraightStop, IsDiagonalStop}
use Rattle.jump_scan.specs.Successors.{IsSuccessor}
use Rattle.jump_search.specs.declared.states.JumpState.{JumpState}

-- A search can be made: its start is passable, its aim is sound for the map, and a cell that the aim hits can be reached.
pub record CanSearch (passes hit : Cell → Bool) (IsSound : Type 0) (start : Cell) : Type 0 where
  pub free : IsTrue (passes start)
  pub sound : IsSound
  pub reach : CanReach passes start hit

-- the run from the cell in the direction stops there
abbrev pub IsStopOf : (Cell → Bool) → (Cell → Bool) → Dir → Cell → Cell → Type 0
IsStopOf passes hit dir from stop = (IsTrue (is_straight dir) × IsStraightStop passes hit dir from stop)
    ⊎ (IsFalse (is_straight dir) × IsDiagonalStop passes hit dir from stop)

-- a run in the direction of a successor leads from one jump state to the other
pub record IsJump (passes hit : Cell → Bool) (from to : JumpState) : Type 0 where
  pub dir : Dir
  pub arrived : to.arrived ≡ Some dir
  pub successor : IsSuccessor passes from.cell from.arrived dir
  pub stop : IsStopOf passes hit dir from.cell to.cell

-- the least cost of steps on an open map over so many columns and rows
abbrev pub octile : ℕ → ℕ → ℕ
octile columns rows = DIAGONAL_COST * min columns rows + STRAIGHT_COST * (max columns rows - min columns rows)

-- the octile distance of two cells, which is the cost of a run from one to the other
abbrev pub octile_between : Cell → Cell → ℕ
octile_between a b = octile ((a.i - b.i) + (b.i - a.i)) ((a.j - b.j) + (b.j - a.j))

-- the octile distance from a cell to a rectangle, both of whose ends are inclusive; 0 inside
abbrev pub octile_to : Rect → Cell → ℕ
octile_to rect cell = octile ((rect.i0 - cell.i) + (cell.i - rect.i1)) ((rect.j0 - cell.j) + (cell.j - rect.j1))

-- the jump state of the start
abbrev pub start_state : Cell → JumpState
start_state start = record { cell = start; arrived = None }

-- jumps lead from the start by the states, which are given backwards, to the state
abbrev pub AreJumps : (Cell → Bool) → (Cell → Bool) → Cell → List JumpState → JumpState → Type 0
AreJumps passes hit start [] state = state ≡ start_state start
AreJumps passes hit start (before ∷ rest) state = IsJump passes hit before state × AreJumps passes hit start rest before

-- what the jumps by the states, which are given backwards, to the state cost
abbrev pub jumps_cost : List JumpState → JumpState → ℕ
jumps_cost [] state = 0
jumps_cost (before ∷ rest) state = jumps_cost rest before + octile_between before.cell state.cell

-- the least cost of jumps from the start to the state
pub record IsPrunedCost (passes hit : Cell → Bool) (start : Cell) (state : JumpState) (cost : ℕ) : Type 0 where
  pub jumps : (before : List JumpState) × (AreJumps passes hit start before state × (jumps_cost before state ≡ cost))
  pub least : (before : List JumpState) → AreJumps passes hit start before state → cost ≤ jumps_cost before state

-- the least cost of jumps to the state and its octile distance to the rectangle of the aim are together at most the
-- bound, which is the cost of the answer
pub record IsOpened (passes hit : Cell → Bool) (start : Cell) (rect : Rect) (bound : ℕ) (state : JumpState) : Type 0
  where
    pub cost : ℕ
    pub pruned : IsPrunedCost passes hit start state cost
    pub near : cost + octile_to rect state.cell ≤ bound

-- so many jump states are opened where the answer has this cost, whichever rectangle frames the aim
abbrev pub CountsOpened : (passes hit framed : Cell → Bool) → Size → Cell → ℕ → ℕ → Type 0
CountsOpened passes hit framed size start cost opened = (rect : Rect) → IsFrame framed size rect
    → Counts (IsOpened passes hit start rect cost) opened

-- what was counted from the one number to the other is at most the opened number, whichever answer it is counted by
abbrev pub IsWithinOpened : (passes hit framed : Cell → Bool) → Size → Cell → ℕ → ℕ → Type 0
IsWithinOpened passes hit framed size start before after = (end : Cell) (cost : ℕ) (points : List Cell) (rect : Rect)
    (n : ℕ) → IsAnswer passes start hit end cost points → IsFrame framed size rect
    → Counts (IsOpened passes hit start rect cost) n → after ≤ before + n
