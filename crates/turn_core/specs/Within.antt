-- The answer to a request within a greatest cost.
use Rattle.std.specs.Prelude.{ℕ, ◌<◌, Option, None, Some}
use Rattle.posts.specs.declared.posts.Request.{Request}
use Rattle.posts.specs.declared.replies.Answer.{Answer}
use Rattle.posts.specs.declared.replies.Answer.TheVariants.{Refused, Nowhere, Path as IsPath, Region as IsRegion}
use Rattle.posts.specs.Maps.{Map}
use Rattle.turn_core.specs.Solving.{IsAnswerTo}
use Rattle.turn_core.specs.Words.{Standing}

-- the answer is a path that costs more than the greatest cost
abbrev pub IsFarther : ℕ → Answer → Type 0
IsFarther most (Refused refusal) = ⊥
IsFarther most Nowhere = ⊥
IsFarther most (IsPath path) = most < path.cost.0
IsFarther most (IsRegion region) = ⊥

-- what a request is answered within a greatest cost: *too far*, which is None, exactly where its answer is a path that costs
-- more, and else its answer
abbrev pub IsAnswerWithin : Map → Standing → Request → ℕ → Option Answer → Type 0
IsAnswerWithin map standing request most None =
    (answer : Answer) → IsAnswerTo map standing request answer → IsFarther most answer
IsAnswerWithin map standing request most (Some answer) =
    IsAnswerTo map standing request answer × (IsFarther most answer → ⊥)
