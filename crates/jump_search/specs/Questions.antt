-- What a jump search is asked, and what it gives.
use Rattle.std.specs.Prelude.{ℕ, Bool, ◌≡◌, ◌+◌, Result, IfOk}
use Rattle.nav_types.specs.declared.cells.Cell.{Cell}
use Rattle.nav_types.specs.declared.cells.Size.{Size}
use Rattle.nav_types.specs.declared.sequences.NoMemory.{NoMemory}
use Rattle.walks.specs.Chosen.{IsAnswer}
use Rattle.walks.specs.declared.found_walk.Found.{Found}
use Rattle.jump_search.specs.declared.search.Traced.{Traced}
use Rattle.jump_search.specs.JumpStates.{CountsOpened, IsWithinOpened}

-- What is asked: which cells are passable, the cell from which to go, which cells are looked for, which cells frame them,
-- and the size of the map.
pub record Asked : Type 0 where
  pub passes : Cell → Bool
  pub start : Cell
  pub hit : Cell → Bool
  pub framed : Cell → Bool
  pub size : Size

-- what was found is the answer: the chosen walk to the first in cell order of the nearest cells that are looked for
abbrev pub IsAnswerTo : Asked → Found → Type 0
IsAnswerTo asked found = IsAnswer asked.passes asked.start asked.hit found.end found.cost.0 found.waypoints

-- the number beside what was found is how many jump states are opened at its cost
abbrev pub CountsFor : Asked → Traced → Type 0
CountsFor asked traced =
    CountsOpened asked.passes asked.hit asked.framed asked.size asked.start traced.found.cost.0 traced.opened

-- what was counted from the one number to the other is at most the opened number
abbrev pub IsWithin : Asked → ℕ → ℕ → Type 0
IsWithin asked before after =
    IsWithinOpened asked.passes asked.hit asked.framed asked.size asked.start before after

-- A search gives the answer. Its ticks, from the one number to the other, are at most the opened number, also where memory
-- runs out.
pub record Finds (asked : Asked) (before after : ℕ) (result : Result Found NoMemory) : Type 0 where
  pub answer : IfOk result (IsAnswerTo asked)
  pub most : IsWithin asked before after

-- A search gives the answer and the opened number. Its ticks, from the one number to the other, are the opened number, and
-- at most that where memory runs out.
pub record Traces (asked : Asked) (before after : ℕ) (result : Result Traced NoMemory) : Type 0 where
  pub answer : IfOk result (λ traced. IsAnswerTo asked traced.found)
  pub opened : IfOk result (CountsFor asked)
  pub ticks : IfOk result (λ traced. after ≡ before + traced.opened)
  pub most : IsWithin asked before after
