-- The texts of refusals.
use Rattle.std.specs.Prelude.{ℕ, List, codes}
use Rattle.posts.specs.declared.edits.Refusal.{Refusal}
use Rattle.posts.specs.declared.edits.Refusal.TheVariants.{BadShape, DuplicateId, StoreFull, UnknownId, UnknownClass, StartOutside, GoalOutside}

-- what a refusal says
abbrev pub refusal_text : Refusal → List ℕ
refusal_text BadShape = codes "the shape is not within its limits"
refusal_text DuplicateId = codes "an obstruction stands under this number"
refusal_text StoreFull = codes "too many obstructions stand"
refusal_text UnknownId = codes "no obstruction stands under this number"
refusal_text UnknownClass = codes "no class has this name"
refusal_text StartOutside = codes "the start lies outside the map"
refusal_text GoalOutside = codes "the goal lies outside the map"
