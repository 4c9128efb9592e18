-- What a jump search knows while it goes on.
use Rattle.std.specs.Prelude.{ℕ, Bool, ◌≡◌, ◌+◌, ◌-◌, ◌*◌, ◌^◌, ◌<◌, ◌≤◌, ◌⊎◌, List, Option, None, Some, length, count_by}
use Rattle.std.specs.Prelude.{slice_get, max, IsTrue, IsFalse}
use Rattle.std.specs.FinMap as map
use Rattle.nav_types.specs.declared.cells.Cell.{Cell}
use Rattle.nav_types.specs.declared.directions.Dir.{Dir}
use Rattle.nav_types.specs.Cells.{IsNotAfter}
use Rattle.open_heap.specs.declared.entries.Entry.{Entry}
use Rattle.open_heap.specs.Queue.{Queue, IsLeast}
use Rattle.jump_search.specs.declared.nodes.Node.{Node}
use Rattle.jump_search.specs.declared.searching.Best.{Best}
use Rattle.jump_search.specs.declared.states.JumpState.{JumpState}
use Rattle.jump_search.specs.Estimates.{IsConsistent}
use Rattle.jump_search.specs.JumpStates.{IsJump, octile_between}
use Rattle.jump_search.specs.inner.Numbered.{HasCheaper}
use Rattle.jump_search.specs.inner.Searched.{IsLastRun, IsKeptRun, HasOpenedParent, IsRelaxed, IsNoted, IsDearer, AreMet}
use Rattle.jump_search.specs.inner.Searched.{IsFollowedFrom, IsSearched}

-- what jumps by the node to a hit cell cost at least, where so much is ahead of a cell
abbrev pub estimate_of : (Cell → ℕ) → Node → ℕ
estimate_of ahead node = node.cost + ahead node.state.cell

-- how many steps a run from one cell to the other has
abbrev pub steps_over : Cell → Cell → ℕ
steps_over a b = max ((a.i - b.i) + (b.i - a.i)) ((a.j - b.j) + (b.j - a.j))

-- how many nodes are opened
abbrev pub opened_count : List Node → ℕ
opened_count nodes = count_by (λ (node : Node). node.opened) nodes

-- The nodes that wait stand in the open list by their estimates, which have come up to `floor`. Each of the others is
-- opened, at an estimate within that, or is dominated by another of its cell where the search is not for all.
pub record IsQueued (all : Bool) (ahead : Cell → ℕ) (floor : ℕ) (nodes : List Node) (queue : Queue) : Type 0 where
  pub waits : (number estimate : ℕ) → map.get queue number ≡ Some estimate
      → (node : Node) × ((slice_get nodes number ≡ Some node) × (IsFalse node.opened
      × ((estimate ≡ estimate_of ahead node) × (floor ≤ estimate))))
  pub others : (number : ℕ) (node : Node) → slice_get nodes number ≡ Some node → map.get queue number ≡ None
      → IsTrue node.opened ⊎ (IsFalse all × IsDearer nodes node)
  pub within : (number : ℕ) (node : Node) → slice_get nodes number ≡ Some node → IsTrue node.opened
      → estimate_of ahead node ≤ floor

-- the nodes, of which each costs at most so much, and the open list
pub record IsGoing (all : Bool) (passes hit : Cell → Bool) (start : Cell) (ahead : Cell → ℕ) (floor most : ℕ)
    (nodes : List Node)
    (queue : Queue) : Type 0 where
  pub met : AreMet passes hit start nodes
  pub queued : IsQueued all ahead floor nodes queue
  pub costs : (number : ℕ) (node : Node) → slice_get nodes number ≡ Some node → node.cost ≤ most
  pub few : length nodes ≤ 2 ^ 32

-- one node for another of its state that is not dominated; an opened one stays so, at its cost
pub record IsLaterNode (old new : Node) : Type 0 where
  pub same : new.state ≡ old.state
  pub cheap : new.cost ≤ old.cost
  pub kept : new.cost ≡ old.cost → IsKeptRun old.state.arrived new.run old.run
  pub opened : IsTrue old.opened → IsTrue new.opened × (new.cost ≡ old.cost)

-- nodes after more jumps were followed: each is there, and none is opened that was not
pub record AreLater (old new : List Node) : Type 0 where
  pub each : (number : ℕ) (a : Node) → slice_get old number ≡ Some a
      → (b : Node) × ((slice_get new number ≡ Some b) × IsLaterNode a b)
  pub back : (number : ℕ) (b : Node) → slice_get new number ≡ Some b → IsTrue b.opened
      → (a : Node) × ((slice_get old number ≡ Some a) × (IsTrue a.opened × IsLaterNode a b))
  pub opened : opened_count new ≡ opened_count old

-- some node has the state and the cost, and is opened
pub record IsOpenNode (nodes : List Node) (state : JumpState) (cost : ℕ) : Type 0 where
  pub number : ℕ
  pub node : Node
  pub known : slice_get nodes number ≡ Some node
  pub opened : IsTrue node.opened
  pub same : node.state ≡ state
  pub costs : node.cost ≡ cost

-- each jump from the state, which costs so much, in the direction has been followed: noted, or left
abbrev pub IsFollowedAlong : Bool → (Cell → Bool) → (Cell → Bool) → Cell → List Node → JumpState → ℕ → Dir → Type 0
IsFollowedAlong all passes hit start nodes from cost dir = (state : JumpState) (run : ℕ) → IsJump passes hit from state
    → state.arrived ≡ Some dir
    → IsLastRun passes from.cell state run → IsNoted all passes hit start nodes state (cost + octile_between from.cell state.cell) run

-- Noting a jump that leads to a node: its state has a node that is as cheap and whose last run is kept beside this one.
pub record Relaxes (ahead : Cell → ℕ) (node : Node) (old new : List Node) (before after : Queue) : Type 0 where
  pub later : AreLater old new
  pub relaxed : IsRelaxed new node.state node.cost node.run
  pub going : (all : Bool) (passes hit : Cell → Bool) (start : Cell) (floor most : ℕ)
      → IsGoing all passes hit start ahead floor most old before
      → floor ≤ estimate_of ahead node → node.cost ≤ most → HasOpenedParent passes hit old node
      → IsGoing all passes hit start ahead floor most new after

-- No entry leaves the open list but those of nodes that are dominated by another of their cell, where the search is not
-- for all.
pub record Drops (all : Bool) (nodes : List Node) (before after : Queue) : Type 0 where
  pub kept : (number estimate : ℕ) → map.get after number ≡ Some estimate → map.get before number ≡ Some estimate
  pub gone : (number estimate : ℕ) (node : Node) → map.get before number ≡ Some estimate → map.get after number ≡ None
      → slice_get nodes number ≡ Some node → IsFalse all × IsDearer nodes node

-- Noting a jump that leads to a node, after which nodes that are dominated by another of their cell may leave the open
-- list, where the search is not for all.
abbrev pub Settles : Bool → (Cell → ℕ) → Node → List Node → List Node → Queue → Queue → Type 0
Settles all ahead node old new before after =
    (queue : Queue) × (Relaxes ahead node old new before queue × Drops all new queue after)

-- Noting a jump that leads to a node, or leaving it, where a node of its cell costs less and the search is not for all.
abbrev pub Notes : Bool → (Cell → ℕ) → Node → List Node → List Node → Queue → Queue → Type 0
Notes all ahead node old new before after = Settles all ahead node old new before after
    ⊎ ((IsFalse all × HasCheaper old node.state.cell node.cost) × ((new ≡ old) × (after ≡ before)))

-- a search can follow jumps from the state, which costs so much
pub record IsFollowable (all : Bool) (passes hit : Cell → Bool) (ahead : Cell → ℕ) (state : JumpState) (cost : ℕ)
    (nodes : List Node) (queue : Queue) : Type 0 where
  pub start : Cell
  pub floor : ℕ
  pub most : ℕ
  pub going : IsGoing all passes hit start ahead floor most nodes queue
  pub opened : IsOpenNode nodes state cost
  pub early : floor ≤ cost + ahead state.cell
  pub consistent : IsConsistent passes hit ahead
  pub room : cost + 189812736 ≤ most
  pub low : most < 2 ^ 62

-- a search that could follow jumps from the state goes on as before
abbrev pub KeepsGoing : Bool → (Cell → Bool) → (Cell → Bool) → (Cell → ℕ) → JumpState → ℕ → List Node → List Node → Queue
    → Queue → Type 0
KeepsGoing all passes hit ahead state cost old new before after = (start : Cell) (floor most : ℕ)
    → IsGoing all passes hit start ahead floor most old before → IsOpenNode old state cost
    → floor ≤ cost + ahead state.cell → cost + 189812736 ≤ most
    → IsGoing all passes hit start ahead floor most new after

-- Following the jumps from a state in the directions that are within the set.
pub record Follows (all : Bool) (passes hit : Cell → Bool) (start : Cell) (ahead : Cell → ℕ) (state : JumpState) (cost : ℕ)
    (Within : Dir → Type 0) (old new : List Node) (before after : Queue) : Type 0 where
  pub later : AreLater old new
  pub along : (dir : Dir) → Within dir → IsFollowedAlong all passes hit start new state cost dir
  pub going : KeepsGoing all passes hit ahead state cost old new before after

-- the best hit among the opened nodes: nearest, and of equal ones first in cell order
pub record IsBestHit (hit : Cell → Bool) (nodes : List Node) (best : Best) : Type 0 where
  pub ends : (number : ℕ) × ((node : Node) × ((slice_get nodes number ≡ Some node) × (IsTrue node.opened
      × ((node.state.cell ≡ best.cell) × ((node.cost ≡ best.cost) × IsTrue (hit best.cell))))))
  pub nearest : (number : ℕ) (node : Node) → slice_get nodes number ≡ Some node → IsTrue node.opened
      → IsTrue (hit node.state.cell) → best.cost ≤ node.cost
  pub earliest : (number : ℕ) (node : Node) → slice_get nodes number ≡ Some node → IsTrue node.opened
      → IsTrue (hit node.state.cell) → node.cost ≡ best.cost → IsNotAfter best.cell node.state.cell

-- no opened node is hit
abbrev pub NoneHit : (Cell → Bool) → List Node → Type 0
NoneHit hit nodes = (number : ℕ) (node : Node) → slice_get nodes number ≡ Some node → IsTrue node.opened
    → IsTrue (hit node.state.cell) → ⊥

-- the best hit so far, at a cost that estimates have not passed
abbrev pub IsBestSoFar : (Cell → Bool) → List Node → ℕ → Option Best → Type 0
IsBestSoFar hit nodes floor None = NoneHit hit nodes
IsBestSoFar hit nodes floor (Some best) = IsBestHit hit nodes best × (floor ≤ best.cost)

-- A search that goes on.
pub record IsUnderway (all : Bool) (passes hit : Cell → Bool) (start : Cell) (ahead : Cell → ℕ) (floor : ℕ)
    (nodes : List Node)
    (queue : Queue) (best : Option Best) : Type 0 where
  pub met : AreMet passes hit start nodes
  pub queued : IsQueued all ahead floor nodes queue
  pub followed : (number : ℕ) (node : Node) → slice_get nodes number ≡ Some node → IsTrue node.opened
      → IsFollowedFrom all passes hit start nodes node
  pub hits : IsBestSoFar hit nodes floor best
  pub costs : (number : ℕ) (node : Node) → slice_get nodes number ≡ Some node
      → node.cost ≤ 189812736 * opened_count nodes
  pub few : length nodes ≤ 2 ^ 32

-- an estimate is not past the best hit's cost
abbrev pub IsNotPast : Option Best → ℕ → Type 0
IsNotPast None estimate = Unit {0}
IsNotPast (Some best) estimate = estimate ≤ best.cost

-- an estimate is past the best hit's cost
abbrev pub IsPast : Option Best → ℕ → Type 0
IsPast None estimate = ⊥
IsPast (Some best) estimate = best.cost < estimate

-- the hit `a` is as good as `b`: nearer, or at the same cost and not after it in cell order
abbrev pub IsAsGood : Best → Best → Type 0
IsAsGood a b = (a.cost < b.cost) ⊎ ((a.cost ≡ b.cost) × IsNotAfter a.cell b.cell)

-- the hit is the better one of a best hit, where there is one, and another
abbrev pub IsBetter : Option Best → Best → Best → Type 0
IsBetter None hit result = result ≡ hit
IsBetter (Some best) hit result = IsAsGood result best × (IsAsGood result hit × ((result ≡ best) ⊎ (result ≡ hit)))

-- A search that goes on by the entry that it has taken from the open list.
pub record IsTaken (all : Bool) (passes hit : Cell → Bool) (start : Cell) (ahead : Cell → ℕ) (floor : ℕ) (nodes : List Node)
    (queue : Queue) (best : Option Best) (entry : Entry) : Type 0 where
  pub before : Queue
  pub underway : IsUnderway all passes hit start ahead floor nodes before best
  pub least : IsLeast before entry
  pub rest : queue ≡ map.remove before entry.key
  pub near : IsNotPast best entry.estimate

-- Nodes of a search that has not ended: nodes are opened up to the estimate `floor`, and all that are opened have been
-- followed. No hit of less cost has been passed by.
pub record IsHalted (all : Bool) (passes hit : Cell → Bool) (start : Cell) (ahead : Cell → ℕ) (floor : ℕ)
    (nodes : List Node) : Type 0 where
  pub met : AreMet passes hit start nodes
  pub followed : (number : ℕ) (node : Node) → slice_get nodes number ≡ Some node → IsTrue node.opened
      → IsFollowedFrom all passes hit start nodes node
  pub within : (number : ℕ) (node : Node) → slice_get nodes number ≡ Some node → IsTrue node.opened
      → estimate_of ahead node ≤ floor
  pub beyond : (number : ℕ) (node : Node) → slice_get nodes number ≡ Some node → IsFalse node.opened
      → (floor ≤ estimate_of ahead node) ⊎ (IsFalse all × IsDearer nodes node)
  pub passed : (number : ℕ) (node : Node) → slice_get nodes number ≡ Some node → IsTrue node.opened
      → IsTrue (hit node.state.cell) → floor ≤ node.cost

-- A search that has opened every node, but for those that are dominated by another of their cell where it is not for
-- all, and has met no cell that is hit.
pub record IsExhausted (all : Bool) (passes hit : Cell → Bool) (start : Cell) (nodes : List Node) : Type 0 where
  pub met : AreMet passes hit start nodes
  pub followed : (number : ℕ) (node : Node) → slice_get nodes number ≡ Some node → IsTrue node.opened
      → IsFollowedFrom all passes hit start nodes node
  pub beyond : (number : ℕ) (node : Node) → slice_get nodes number ≡ Some node → IsFalse node.opened → IsFalse all
      × IsDearer nodes node
  pub missed : NoneHit hit nodes

-- how a search has ended: with a best hit, or with none
abbrev pub HasEnded : Bool → (Cell → Bool) → (Cell → Bool) → Cell → (Cell → ℕ) → List Node → Option Best → Type 0
HasEnded all passes hit start ahead nodes None = IsExhausted all passes hit start nodes
HasEnded all passes hit start ahead nodes (Some best) = IsSearched all passes hit start ahead best.cell best.cost nodes
