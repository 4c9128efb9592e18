-- The jump states by which the chosen walk goes.
use Rattle.std.specs.Prelude.{ℕ, Bool, ◌≡◌, ◌<◌, List, [], ◌∷◌, Option, Some}
use Rattle.nav_types.specs.declared.cells.Cell.{Cell}
use Rattle.nav_types.specs.declared.directions.Dir.{Dir}
use Rattle.nav_types.specs.Walks.{IsDistance}
use Rattle.walks.specs.Chosen.{Enters, IsPicked}
use Rattle.jump_scan.specs.Stops.{IsRun}
use Rattle.jump_search.specs.declared.states.JumpState.{JumpState}
use Rattle.jump_search.specs.JumpStates.{IsJump, start_state, jumps_cost}

-- The chosen walk comes by the jump from the state before: its direction is the one that the walk takes into the cell,
-- where `next` is the step that follows there, and into each cell on the way.
pub record IsFollowed (passes hit : Cell → Bool) (start : Cell) (next : Option Dir) (before state : JumpState) : Type 0
  where
    pub jump : IsJump passes hit before state
    pub dir : Dir
    pub arrived : state.arrived ≡ Some dir
    pub picked : IsPicked (Enters passes start state.cell) next dir
    pub inside : (some more : ℕ) (cell : Cell) → 0 < some → 0 < more → IsRun passes dir some before.cell cell
        → IsRun passes dir more cell state.cell → IsPicked (Enters passes start cell) (Some dir) dir

-- the chosen walk from the start to the state's cell, after which it takes the step `next`, goes by the states, which
-- are given backwards; the jumps cost what the walk does, which is the distance
abbrev pub Follows : (Cell → Bool) → (Cell → Bool) → Cell → Option Dir → List JumpState → JumpState → Type 0
Follows passes hit start next [] state = state ≡ start_state start
Follows passes hit start next (before ∷ rest) state =
    IsDistance passes start state.cell (jumps_cost (before ∷ rest) state)
    × (IsFollowed passes hit start next before state × Follows passes hit start state.arrived rest before)
