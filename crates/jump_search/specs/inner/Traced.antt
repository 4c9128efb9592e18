-- What is known while the chosen walk is traced back.
use Rattle.std.specs.Prelude.{ℕ, Bool, ◌≡◌, ◌+◌, ◌*◌, ◌++◌, ◌≤◌, ◌&&◌, List, length, Option, None, Some, slice_get, reverse}
use Rattle.std.specs.Prelude.{IsTrue, IfSome, nat_eq, if◌then◌else◌}
use Rattle.nav_types.specs.declared.cells.Cell.{Cell}
use Rattle.nav_types.specs.declared.directions.Dir.{Dir}
use Rattle.nav_types.specs.Directions.{east, west, north, south, is_straight}
use Rattle.nav_types.specs.Walks.{IsWalk, walk_cost, IsDistance}
use Rattle.walks.specs.Chosen.{IsChosenBack, IsChosen}
use Rattle.walks.specs.Waypoints.{IsInGrid, waypoints}
use Rattle.jump_search.specs.declared.nodes.Node.{Node}
use Rattle.jump_search.specs.declared.states.JumpState.{JumpState}
use Rattle.jump_search.specs.declared.tracing.LastRun.{LastRun}
use Rattle.jump_search.specs.Estimates.{IsConsistent}
use Rattle.jump_search.specs.inner.Following.{Follows}
use Rattle.jump_search.specs.inner.Numbered.{arrival_number, IsLastInSlot}
use Rattle.jump_search.specs.inner.Paged.{slot_of}
use Rattle.jump_search.specs.inner.Searched.{IsSearched}

-- so many steps in the direction lead from one cell to the other
pub record Moves (dir : Dir) (count : ℕ) (from to : Cell) : Type 0 where
  pub columns : to.i + count * west dir ≡ from.i + count * east dir
  pub rows : to.j + count * south dir ≡ from.j + count * north dir

-- the node of the cell and the direction costs so much, and its last run has so many steps
pub record HasRun (nodes : List Node) (cell : Cell) (cost : ℕ) (dir : Dir) (run : ℕ) : Type 0 where
  pub place : ℕ
  pub node : Node
  pub known : slice_get nodes place ≡ Some node
  pub state : node.state ≡ record { cell = cell; arrived = Some dir }
  pub costs : node.cost ≡ cost
  pub runs : node.run ≡ run

-- the node is of the cell and the direction and costs so much, and its last run has so many steps
pub record IsLastTo (node : Node) (cell : Cell) (cost : ℕ) (dir : Dir) (run : ℕ) : Type 0 where
  pub state : node.state ≡ record { cell = cell; arrived = Some dir }
  pub costs : node.cost ≡ cost
  pub runs : node.run ≡ run

-- jumps in the direction come to the cell at this cost
abbrev pub IsExact : List Node → Cell → ℕ → Dir → Type 0
IsExact nodes cell cost dir = (run : ℕ) × HasRun nodes cell cost dir run

-- the step that follows goes straight on in the direction
abbrev pub is_straight_on : Option Dir → Dir → Bool
is_straight_on next dir = is_straight dir && nat_eq (arrival_number next) (arrival_number (Some dir))

-- how late a direction is picked by the step that follows: not at all late where it goes straight on, else by its number
abbrev pub lateness : Option Dir → Dir → ℕ
lateness next dir = if is_straight_on next dir then 0 else arrival_number (Some dir)

-- there is a last run, and one in the direction is not picked earlier
abbrev pub IsAsEarly : Option Dir → Option LastRun → Dir → Type 0
IsAsEarly next None dir = ⊥
IsAsEarly next (Some last) dir = lateness next last.dir ≤ lateness next dir

-- The nodes of the cell from the number `after` on have been looked through for the last run that is picked: the rest are
-- the one before that number and those linked from there.
pub record IsLookedThrough (nodes : List Node) (cell : Cell) (cost : ℕ) (next : Option Dir) (after : ℕ)
    (best : Option LastRun) : Type 0 where
  pub bound : ℕ
  pub rest : IsLastInSlot slot_of nodes (slot_of cell) bound after
  pub inside : bound ≤ length nodes
  pub picked : (number : ℕ) (node : Node) (dir : Dir) → bound ≤ number → slice_get nodes number ≡ Some node
      → IsLastTo node cell cost dir node.run → IsAsEarly next best dir
  pub some : IfSome best (λ last. HasRun nodes cell cost last.dir last.run)

-- The walk has been traced back from the end, whose distance is the bound, to the cell: `next` is the step that follows
-- the cell, and `back` has the steps from the end backwards to it. They are chosen where the chosen walk goes by jump
-- states.
pub record IsTraced (passes hit : Cell → Bool) (start : Cell) (nodes : List Node) (end : Cell) (bound : ℕ) (cell : Cell)
    (cost : ℕ)
    (next : Option Dir) (back : List Dir) : Type 0 where
  pub place : ℕ
  pub node : Node
  pub known : slice_get nodes place ≡ Some node
  pub opened : IsTrue node.opened
  pub here : node.state.cell ≡ cell
  pub costs : node.cost ≡ cost
  pub distance : IsDistance passes start cell cost
  pub walk : IsWalk passes cell (reverse back) end
  pub sums : cost + walk_cost (reverse back) ≡ bound
  pub chosen : ((states : List JumpState) (state : JumpState) → state.cell ≡ cell
      → Follows passes hit start next states state
      → ((rest : List Dir) → IsChosenBack passes start next rest cell
      → IsChosenBack passes start None (back ++ rest) end) → ⊥) → ⊥

-- The walk has been traced back from the end to the cell, and these are its waypoints from there on, from the last to
-- the first.
pub record HasCorners (passes hit : Cell → Bool) (start : Cell) (nodes : List Node) (end : Cell) (bound : ℕ) (cell : Cell)
    (cost : ℕ) (next : Option Dir) (corners : List Cell) : Type 0 where
  pub back : List Dir
  pub traced : IsTraced passes hit start nodes end bound cell cost next back
  pub first : slice_get (reverse back) 0 ≡ next
  pub points : reverse corners ≡ waypoints cell (reverse back)

-- these are the waypoints of the chosen walk
abbrev pub HasWaypoints : (Cell → Bool) → Cell → Cell → List Cell → Type 0
HasWaypoints passes start end points = (dirs : List Dir) × (IsChosen passes start dirs end × (points ≡ waypoints start dirs))

-- Nodes over which the chosen walk to the end can be traced back: those of a search that has ended there.
pub record IsTraceable (all : Bool) (passes hit : Cell → Bool) (start : Cell) (ahead : Cell → ℕ) (end : Cell) (bound : ℕ)
    (nodes : List Node) : Type 0 where
  pub searched : IsSearched all passes hit start ahead end bound nodes
  pub passing : IsTrue (passes start)
  pub consistent : IsConsistent passes hit ahead
  pub grid : (cell : Cell) → IsTrue (passes cell) → IsInGrid cell
