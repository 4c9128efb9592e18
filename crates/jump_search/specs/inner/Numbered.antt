-- How the nodes of a search are found by their states.
use Rattle.std.specs.Prelude.{ℕ, Bool, ◌≡◌, ◌≢◌, ◌+◌, ◌<◌, ◌≤◌, ◌&&◌, List, length, Option, None, Some, nat_eq, slice_get}
use Rattle.std.specs.Prelude.{slice_index, All}
use Rattle.nav_types.specs.declared.cells.Cell.{Cell}
use Rattle.nav_types.specs.declared.directions.Dir.{Dir}
use Rattle.nav_types.specs.declared.directions.Dir.TheVariants.{N, E, S, W, NE, SE, SW, NW}
use Rattle.jump_search.specs.declared.nodes.Node.{Node}
use Rattle.jump_search.specs.declared.nodes.Lookup.{Lookup}
use Rattle.jump_search.specs.declared.nodes.Lookup.TheVariants.{Dominated, Known, New}
use Rattle.jump_search.specs.declared.states.JumpState.{JumpState}
use Rattle.jump_search.specs.inner.Paged.{page_place, slot_of, cell_number}

-- the number of an arrival: 0 for none, else that of its direction from 1
abbrev pub arrival_number : Option Dir → ℕ
arrival_number None = 0
arrival_number (Some N) = 1
arrival_number (Some E) = 2
arrival_number (Some S) = 3
arrival_number (Some W) = 4
arrival_number (Some NE) = 5
arrival_number (Some SE) = 6
arrival_number (Some SW) = 7
arrival_number (Some NW) = 8

-- what a state is looked up by
abbrev pub key_of : JumpState → Cell × ℕ
key_of state = (state.cell, arrival_number state.arrived)

abbrev pub same_key : Cell × ℕ → Cell × ℕ → Bool
same_key a b = (nat_eq a.0.j b.0.j && nat_eq a.0.i b.0.i) && nat_eq a.1 b.1

-- the node of the number has the state
abbrev pub HasState : List Node → JumpState → ℕ → Type 0
HasState nodes state number = (node : Node) × ((slice_get nodes number ≡ Some node) × (node.state ≡ state))

-- no node has the state
abbrev pub LacksState : List Node → JumpState → Type 0
LacksState nodes state = (number : ℕ) → HasState nodes state number → ⊥

-- `after` is one more than the number of the last node of the slot before the number `bound`; 0 for none
pub record IsLastInSlot (Slot : Cell → ℕ) (nodes : List Node) (slot bound after : ℕ) : Type 0 where
  pub within : after ≤ bound
  pub here : (number : ℕ) (node : Node) → number + 1 ≡ after → slice_get nodes number ≡ Some node
      → Slot node.state.cell ≡ slot
  pub past : (number : ℕ) (node : Node) → after ≤ number → number < bound → slice_get nodes number ≡ Some node
      → Slot node.state.cell ≢ slot

-- each node is linked to the last one before it of its slot
pub record AreLinked (Slot : Cell → ℕ) (nodes : List Node) (links : List ℕ) : Type 0 where
  pub long : length links ≡ length nodes
  pub each : (number : ℕ) (node : Node) → slice_get nodes number ≡ Some node
      → IsLastInSlot Slot nodes (Slot node.state.cell) number (slice_index links number)

-- each cell leads to the last node of its slot, and that to the one before it, and so on
pub record AreSlotChains (Slot Head : Cell → ℕ) (nodes : List Node) (links : List ℕ) : Type 0 where
  pub linked : AreLinked Slot nodes links
  pub heads : (cell : Cell) → IsLastInSlot Slot nodes (Slot cell) (length nodes) (Head cell)

-- no place has a page but those of the nodes
abbrev pub AreCovered : List ℕ → List Node → Type 0
AreCovered table nodes = (place : ℕ) → All (λ (node : Node). page_place node.state.cell ≢ place) nodes
    → slice_index table place ≡ 0

-- each cell leads to its nodes by its number on the pages, and no page is for other cells
pub record AreFound (table numbers : List ℕ) (nodes : List Node) (links : List ℕ) : Type 0 where
  pub chained : AreSlotChains slot_of (cell_number table numbers) nodes links
  pub covered : AreCovered table nodes

-- a node with the state, if there is one, is `after` or linked from there
pub record IsSought (Slot : Cell → ℕ) (nodes : List Node) (state : JumpState) (after : ℕ) : Type 0 where
  pub within : after ≤ length nodes
  pub here : (number : ℕ) (node : Node) → number + 1 ≡ after → slice_get nodes number ≡ Some node
      → Slot node.state.cell ≡ Slot state.cell
  pub past : (number : ℕ) (node : Node) → after ≤ number → slice_get nodes number ≡ Some node → node.state ≢ state

-- nodes where a state can be sought from `after` on
abbrev pub IsSearchable : List Node → List ℕ → JumpState → ℕ → Type 0
IsSearchable nodes links state after = (Slot : Cell → ℕ)
    × (AreLinked Slot nodes links × IsSought Slot nodes state after)

-- the links lead to smaller numbers
pub record AreDown (nodes : List Node) (links : List ℕ) : Type 0 where
  pub long : length links ≡ length nodes
  pub each : (number : ℕ) → number < length nodes → slice_index links number ≤ number

-- some node of the cell costs less
abbrev pub HasCheaper : List Node → Cell → ℕ → Type 0
HasCheaper nodes cell cost = (place : ℕ) × ((other : Node) × ((slice_get nodes place ≡ Some other)
    × ((other.state.cell ≡ cell) × (other.cost < cost))))

-- some node of the cell costs at most so much
abbrev pub IsAsCheap : List Node → Cell → ℕ → Type 0
IsAsCheap nodes cell cost = (place : ℕ) × ((node : Node) × ((slice_get nodes place ≡ Some node)
    × ((node.state.cell ≡ cell) × (node.cost ≤ cost))))

-- what is found of a state among the nodes: one of its cell costs less than the bound; or the node of a number has it; or none has
abbrev pub IsLookup : List Node → JumpState → ℕ → Lookup → Type 0
IsLookup nodes state bound Dominated = HasCheaper nodes state.cell bound
IsLookup nodes state bound (Known number) = HasState nodes state number
IsLookup nodes state bound New = LacksState nodes state
