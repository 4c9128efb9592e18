-- What a jump search knows when it ends.
use Rattle.std.specs.Prelude.{ℕ, Bool, ◌≡◌, ◌+◌, ◌<◌, ◌≤◌, ◌⊎◌, List, Option, None, Some, slice_get, IsTrue, IsFalse}
use Rattle.nav_types.specs.declared.cells.Cell.{Cell}
use Rattle.nav_types.specs.declared.directions.Dir.{Dir}
use Rattle.nav_types.specs.Cells.{IsNotAfter}
use Rattle.nav_types.specs.Directions.{is_straight}
use Rattle.nav_types.specs.Walks.{IsWalk, walk_cost}
use Rattle.jump_scan.specs.Stops.{IsRun}
use Rattle.jump_search.specs.declared.nodes.Node.{Node}
use Rattle.jump_search.specs.declared.states.JumpState.{JumpState}
use Rattle.jump_search.specs.JumpStates.{IsJump, AreJumps, jumps_cost, start_state, octile_between}
use Rattle.jump_search.specs.inner.Numbered.{HasCheaper}

-- the last run to the state has so many steps
abbrev pub IsLastRun : (Cell → Bool) → Cell → JumpState → ℕ → Type 0
IsLastRun passes from state run = (dir : Dir) × ((state.arrived ≡ Some dir) × IsRun passes dir run from state.cell)

-- of two last runs of equal cost the one that is kept is the longer one where they are straight, else the shorter one
abbrev pub IsKeptRun : Option Dir → ℕ → ℕ → Type 0
IsKeptRun None kept run = kept ≡ run
IsKeptRun (Some dir) kept run = (IsTrue (is_straight dir) × (run ≤ kept)) ⊎ (IsFalse (is_straight dir) × (kept ≤ run))

-- jumps from the start lead to the node's state and cost what it says
abbrev pub IsMetByJumps : (Cell → Bool) → (Cell → Bool) → Cell → Node → Type 0
IsMetByJumps passes hit start node = (before : List JumpState)
    × (AreJumps passes hit start before node.state × (jumps_cost before node.state ≡ node.cost))

-- the last jump to the node comes from an opened node
pub record HasOpenedParent (passes hit : Cell → Bool) (nodes : List Node) (node : Node) : Type 0 where
  pub place : ℕ
  pub parent : Node
  pub known : slice_get nodes place ≡ Some parent
  pub opened : IsTrue parent.opened
  pub jump : IsJump passes hit parent.state node.state
  pub cost : node.cost ≡ parent.cost + octile_between parent.state.cell node.state.cell
  pub last : IsLastRun passes parent.state.cell node.state node.run

-- the state has a node that costs at most so much, and where it costs just so much, its last run is kept beside this
-- one
pub record IsRelaxed (nodes : List Node) (state : JumpState) (cost run : ℕ) : Type 0 where
  pub place : ℕ
  pub node : Node
  pub known : slice_get nodes place ≡ Some node
  pub same : node.state ≡ state
  pub cheap : node.cost ≤ cost
  pub kept : node.cost ≡ cost → IsKeptRun state.arrived node.run run

-- some node of the same cell costs less
abbrev pub IsDearer : List Node → Node → Type 0
IsDearer nodes node = HasCheaper nodes node.state.cell node.cost

-- some walk from the start to a cell that is hit costs so much
abbrev pub IsCostToHit : (Cell → Bool) → (Cell → Bool) → Cell → ℕ → Type 0
IsCostToHit passes hit start cost = (target : Cell) × (IsTrue (hit target)
    × ((dirs : List Dir) × (IsWalk passes start dirs target × (walk_cost dirs ≡ cost))))

-- some walk from the start to a cell that is hit costs less
abbrev pub HasNearer : (Cell → Bool) → (Cell → Bool) → Cell → ℕ → Type 0
HasNearer passes hit start cost = (less : ℕ) × (IsCostToHit passes hit start less × (less < cost))

-- Jumps to the state at this cost and with this last run have been noted, or left, where some node of the cell costs
-- less and the search is not for all, or where a cell that is hit is nearer.
abbrev pub IsNoted : Bool → (Cell → Bool) → (Cell → Bool) → Cell → List Node → JumpState → ℕ → ℕ → Type 0
IsNoted all passes hit start nodes state cost run = IsRelaxed nodes state cost run
    ⊎ ((IsFalse all × HasCheaper nodes state.cell cost) ⊎ HasNearer passes hit start cost)

-- Nodes that a search has met: the start's first, each state once, each with jumps to it.
pub record AreMet (passes hit : Cell → Bool) (start : Cell) (nodes : List Node) : Type 0 where
  pub first : (node : Node) × ((slice_get nodes 0 ≡ Some node) × ((node.state ≡ start_state start) × (node.cost ≡ 0)))
  pub once : (p q : ℕ) (a b : Node) → slice_get nodes p ≡ Some a → slice_get nodes q ≡ Some b → a.state ≡ b.state
      → p ≡ q
  pub reached : (place : ℕ) (node : Node) → slice_get nodes place ≡ Some node → IsMetByJumps passes hit start node
  pub parents : (place : ℕ) (node : Node) → slice_get nodes place ≡ Some node → 0 < place
      → HasOpenedParent passes hit nodes node

-- each jump from the node has been followed: noted, or left
abbrev pub IsFollowedFrom : Bool → (Cell → Bool) → (Cell → Bool) → Cell → List Node → Node → Type 0
IsFollowedFrom all passes hit start nodes node = (state : JumpState) (run : ℕ) → IsJump passes hit node.state state
    → IsLastRun passes node.state.cell state run
    → IsNoted all passes hit start nodes state (node.cost + octile_between node.state.cell state.cell) run

-- A search that has ended. Its bound is the cost of the answer: all nodes within it are opened, but for those that are
-- dominated by another of their cell, where the search is not for all. The end is the first in cell order of the cells
-- that are hit at this cost, and none is hit at less.
pub record IsSearched (all : Bool) (passes hit : Cell → Bool) (start : Cell) (ahead : Cell → ℕ) (end : Cell) (bound : ℕ)
    (nodes : List Node) : Type 0 where
  pub met : AreMet passes hit start nodes
  pub followed : (place : ℕ) (node : Node) → slice_get nodes place ≡ Some node → IsTrue node.opened
      → IsFollowedFrom all passes hit start nodes node
  pub within : (place : ℕ) (node : Node) → slice_get nodes place ≡ Some node → IsTrue node.opened
      → node.cost + ahead node.state.cell ≤ bound
  pub beyond : (place : ℕ) (node : Node) → slice_get nodes place ≡ Some node → IsFalse node.opened
      → (bound < node.cost + ahead node.state.cell) ⊎ (IsFalse all × IsDearer nodes node)
  pub ends : (place : ℕ) × ((node : Node) × ((slice_get nodes place ≡ Some node) × (IsTrue node.opened
      × ((node.state.cell ≡ end) × ((node.cost ≡ bound) × IsTrue (hit end))))))
  pub nearest : (place : ℕ) (node : Node) → slice_get nodes place ≡ Some node → IsTrue node.opened
      → IsTrue (hit node.state.cell) → bound ≤ node.cost
  pub earliest : (place : ℕ) (node : Node) → slice_get nodes place ≡ Some node → IsTrue node.opened
      → IsTrue (hit node.state.cell) → node.cost ≡ bound → IsNotAfter end node.state.cell
