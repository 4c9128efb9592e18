-- The answer to a request on a map with what stands on it.
use Rattle.std.specs.Prelude.{ℕ, ◌≡◌, ◌⊎◌, Bool, true, false, List, [], ◌∷◌, Option, None, Some, Result, Ok, Err, ℤ, IsFalse}
use Rattle.nav_types.specs.declared.cells.Cell.{Cell}
use Rattle.nav_types.specs.Cells.{chunk_of}
use Rattle.nav_types.specs.Regions.{HasRegion, HasArea}
use Rattle.goal_shapes.specs.declared.goals.Goal.{Goal}
use Rattle.goal_shapes.specs.Goals.{HoldsPoint}
use Rattle.goal_reach.specs.declared.targets.Target.{Target}
use Rattle.goal_reach.specs.declared.targets.Target.TheVariants.{Goal as GoalTarget, Near}
use Rattle.goal_reach.specs.Starts.{IsStartCell}
use Rattle.goal_reach.specs.Targets.{hit_by, AreTargets}
use Rattle.walks.specs.Chosen.{IsAnswer}
use Rattle.posts.specs.declared.edits.Refusal.{Refusal}
use Rattle.posts.specs.declared.edits.Refusal.TheVariants.{UnknownClass, StartOutside}
use Rattle.posts.specs.declared.posts.PathRequest.{PathRequest}
use Rattle.posts.specs.declared.posts.RegionQuery.{RegionQuery}
use Rattle.posts.specs.declared.posts.Request.{Request}
use Rattle.posts.specs.declared.posts.Request.TheVariants.{Path as AsksPath, Region as AsksRegion}
use Rattle.posts.specs.declared.replies.PathAnswer.{PathAnswer}
use Rattle.posts.specs.declared.replies.RegionAnswer.{RegionAnswer}
use Rattle.posts.specs.declared.replies.Answer.{Answer}
use Rattle.posts.specs.declared.replies.Answer.TheVariants.{Refused, Nowhere, Path as IsPath, Region as IsRegion}
use Rattle.posts.specs.Maps.{Map}
use Rattle.grid_versions.specs.Passing.{passable_at}
use Rattle.turn_core.specs.Words.{Standing}
use Rattle.turn_core.specs.NamedGoals.{class_named, is_on_map, goal_found}

-- no cell is passable
abbrev pub IsImpassable : (Cell → Bool) → Type 0
IsImpassable passes = (cell : Cell) → IsFalse (passes cell)

-- the target is one near cell, in place of a goal that can't be reached
abbrev pub is_near : Target → Bool
is_near (GoalTarget goal) = false
is_near (Near cell) = true

-- The path leads from the start cell of the point (x, z) to the targets of the goal by the chosen walk, and is near where
-- no goal cell can be reached from the start.
pub record IsPathAnswer (passes : Cell → Bool) (x z : ℤ) (goal : Goal) (path : PathAnswer) : Type 0 where
  pub start_cell : IsStartCell passes x z path.start
  pub target : Target
  pub targets : AreTargets passes path.start goal target
  pub nearness : path.near ≡ is_near target
  pub walk : IsAnswer passes path.start (hit_by target) path.end path.cost.0 path.waypoints

-- the answer to a path from the point (x, z) to the goal: nowhere where no cell is passable, else a path
abbrev pub IsPathTo : (Cell → Bool) → ℤ → ℤ → Goal → Answer → Type 0
IsPathTo passes x z goal answer =
    (IsImpassable passes × (answer ≡ Nowhere)) ⊎ ((path : PathAnswer) × ((answer ≡ IsPath path) × IsPathAnswer passes x z goal path))

-- the same for a goal that is found, and the refusal of one that is not
abbrev pub IsPathFound : (Cell → Bool) → ℤ → ℤ → Result Goal Refusal → Answer → Type 0
IsPathFound passes x z (Err refusal) answer = answer ≡ Refused refusal
IsPathFound passes x z (Ok goal) answer = IsPathTo passes x z goal answer

-- The chunk, the region and the area are those of the cell that holds the point (x, z).
pub record IsRegionAnswer (passes : Cell → Bool) (x z : ℤ) (answer : RegionAnswer) : Type 0 where
  pub cell : Cell
  pub holder : HoldsPoint x z cell
  pub chunk_column : answer.ci ≡ (chunk_of cell).ci
  pub chunk_row : answer.cj ≡ (chunk_of cell).cj
  pub region_number : HasRegion passes (chunk_of cell) cell answer.region
  pub area_number : HasArea passes cell answer.area

-- the answer to a region query at the point (x, z)
abbrev pub IsRegionAt : (Cell → Bool) → ℤ → ℤ → Answer → Type 0
IsRegionAt passes x z answer = (region : RegionAnswer) × ((answer ≡ IsRegion region) × IsRegionAnswer passes x z region)

-- a request is refused where the map has no class of its name, else where its point does not lie on the map
abbrev pub IsAnswerAt : Option ℕ → Bool → (ℕ → Answer → Type 0) → Answer → Type 0
IsAnswerAt None on_map Answers answer = answer ≡ Refused UnknownClass
IsAnswerAt (Some class) false Answers answer = answer ≡ Refused StartOutside
IsAnswerAt (Some class) true Answers answer = Answers class answer

-- the answer to a request for a path on the map with what stands on it
abbrev pub IsPathAsked : Map → Standing → PathRequest → Answer → Type 0
IsPathAsked map standing request answer =
    IsAnswerAt (class_named map request.class) (is_on_map map.size request.x request.z)
    (λ class. IsPathFound (passable_at map standing class) request.x request.z (goal_found map standing request.goal)) answer

-- the answer to a region query
abbrev pub IsRegionAsked : Map → Standing → RegionQuery → Answer → Type 0
IsRegionAsked map standing query answer =
    IsAnswerAt (class_named map query.class) (is_on_map map.size query.x query.z)
    (λ class. IsRegionAt (passable_at map standing class) query.x query.z) answer

-- The answer is one to the request on the map with what stands on it.
unfoldable pub IsAnswerTo : Map → Standing → Request → Answer → Type 0
IsAnswerTo map standing (AsksPath request) answer = IsPathAsked map standing request answer
IsAnswerTo map standing (AsksRegion query) answer = IsRegionAsked map standing query answer

-- one answer to each request, in their order
abbrev pub AreAnswersTo : Map → Standing → List Request → List Answer → Type 0
AreAnswersTo map standing [] [] = Unit {0}
AreAnswersTo map standing [] (answer ∷ answers) = ⊥
AreAnswersTo map standing (request ∷ requests) [] = ⊥
AreAnswersTo map standing (request ∷ requests) (answer ∷ answers) =
    IsAnswerTo map standing request answer × AreAnswersTo map standing requests answers
