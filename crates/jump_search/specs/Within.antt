-- A jump search that looks no further than a greatest cost.
use Rattle.std.specs.Prelude.{ℕ, ◌+◌, ◌<◌, ◌≤◌, IsTrue, Option, None, Some, Result, IfOk, List}
use Rattle.nav_types.specs.declared.cells.Cell.{Cell}
use Rattle.nav_types.specs.declared.cells.Rect.{Rect}
use Rattle.nav_types.specs.declared.directions.Dir.{Dir}
use Rattle.nav_types.specs.declared.sequences.NoMemory.{NoMemory}
use Rattle.nav_types.specs.Counting.{Counts}
use Rattle.nav_types.specs.Frames.{IsFrame}
use Rattle.nav_types.specs.Walks.{IsWalk, walk_cost}
use Rattle.walks.specs.declared.found_walk.Found.{Found}
use Rattle.jump_search.specs.JumpStates.{IsOpened}
use Rattle.jump_search.specs.Questions.{Asked, IsAnswerTo, IsWithin}

-- each walk to a cell that is looked for costs more than the greatest cost
abbrev pub IsTooFar : Asked → ℕ → Type 0
IsTooFar asked most = (target : Cell) (dirs : List Dir) → IsTrue (asked.hit target)
    → IsWalk asked.passes asked.start dirs target → most < walk_cost dirs

-- what is found within the greatest cost: the answer, and none exactly where it costs more
abbrev pub IsAnswerWithin : Asked → ℕ → Option Found → Type 0
IsAnswerWithin asked most None = IsTooFar asked most
IsAnswerWithin asked most (Some found) = IsAnswerTo asked found × (found.cost.0 ≤ most)

-- what was counted from the one number to the other is at most how many jump states are within the greatest cost
abbrev pub IsWithinCost : Asked → (most before after : ℕ) → Type 0
IsWithinCost asked most before after = (rect : Rect) (n : ℕ) → IsFrame asked.framed asked.size rect
    → Counts (IsOpened asked.passes asked.hit asked.start rect most) n → after ≤ before + n

-- A search gives the answer within the greatest cost. Its ticks, from the one number to the other, are at most the opened
-- number, and at most how many jump states are within the greatest cost, also where memory runs out.
pub record FindsWithin (asked : Asked) (most before after : ℕ) (result : Result (Option Found) NoMemory) : Type 0 where
  pub answer : IfOk result (IsAnswerWithin asked most)
  pub opened : IsWithin asked before after
  pub near : IsWithinCost asked most before after
