-- The flow field of a path that was answered.
use Rattle.std.specs.Prelude.{ℕ, Bool, true, false, ◌≡◌, ⊤, List, Option, Some, None, Ok, IsTrue}
use Rattle.nav_types.specs.declared.cells.Cell.{Cell}
use Rattle.nav_types.specs.declared.cells.Size.{Size}
use Rattle.goal_shapes.specs.declared.goals.Goal.{Goal}
use Rattle.goal_shapes.specs.declared.goals.GoalSpec.{GoalSpec}
use Rattle.goal_reach.specs.declared.targets.Target.{Target}
use Rattle.goal_reach.specs.Targets.{AreTargets, hit_by}
use Rattle.flow_field.specs.Flows.{FieldCells, IsFieldOf}
use Rattle.flat_ways.specs.Steps.{AreTold}
use Rattle.posts.specs.declared.posts.Request.{Request}
use Rattle.posts.specs.declared.posts.Request.TheVariants.{Path as AsksPath, Region as AsksRegion}
use Rattle.posts.specs.declared.replies.Answer.{Answer}
use Rattle.posts.specs.declared.replies.Answer.TheVariants.{Path as IsPath}
use Rattle.grid_versions.specs.Versions.{MapState, passes_of}
use Rattle.turn_core.specs.NamedGoals.{class_named, goal_found}
use Rattle.turn_core.specs.Solving.{IsAnswerTo}
use Rattle.pathserve_c.specs.declared.fields.FieldAnswer.{FieldAnswer}

-- whether a request asks for a path
abbrev pub asks_path : Request → Bool
asks_path (AsksPath request) = true
asks_path (AsksRegion query) = false

-- the map has a class of the name and the goal, and the start is passable for the class
pub record IsFieldAsked (version : MapState) (name : List ℕ) (spec : GoalSpec) (start : Cell) : Type 0 where
  pub class : ℕ
  pub named : class_named version.map name ≡ Some class
  pub goal : Goal
  pub found : goal_found version.map version.standing spec ≡ Ok goal
  pub passes : IsTrue (passes_of version class start)

-- the field is that of the goal's targets for the class, in the area of the start
pub record IsFieldToGoal (version : MapState) (class : ℕ) (start : Cell) (goal : Goal) (made : FieldCells) : Type 0 where
  pub target : Target
  pub targets : AreTargets (passes_of version class) start goal target
  pub size : made.size ≡ version.map.size
  pub field : IsFieldOf (passes_of version class) (hit_by target) start made

-- the same of a class and a goal that are named
pub record IsFieldNamed (version : MapState) (name : List ℕ) (spec : GoalSpec) (start : Cell) (made : FieldCells) : Type 0 where
  pub class : ℕ
  pub named : class_named version.map name ≡ Some class
  pub goal : Goal
  pub found : goal_found version.map version.standing spec ≡ Ok goal
  pub field : IsFieldToGoal version class start goal made

-- the field of a request for a path
abbrev pub IsFieldFor : MapState → Request → Cell → FieldCells → Type 0
IsFieldFor version (AsksPath request) start field = IsFieldNamed version request.class request.goal start field
IsFieldFor version (AsksRegion query) start field = ⊥

-- an answer that is a path has its field, and no other answer has one
abbrev pub HasField : MapState → Request → Answer → Option FieldCells → Type 0
HasField version request (IsPath path) None = ⊥
HasField version request (IsPath path) (Some field) = IsFieldFor version request path.start field
HasField version request answer None = ⊤
HasField version request answer (Some field) = ⊥

-- the answer to a request, with its field where it is a path
pub record IsAnsweredWith (version : MapState) (request : Request) (answered : FieldAnswer) : Type 0 where
  pub answers : IsAnswerTo version.map version.standing request answered.answer
  pub field : HasField version request answered.answer answered.field

-- a field, if there is one, is of a map of this size
abbrev pub IsSized : Option FieldCells → Size → Type 0
IsSized None size = ⊤
IsSized (Some field) size = field.size ≡ size

-- a buffer has what is told of each cell by a field, if there is one; else it stays
abbrev pub IsWrittenBy : ((passes hit : Cell → Bool) → Cell → Cell → ℕ → Type 0) → Option FieldCells → Size → (before after : List ℕ) → Type 0
IsWrittenBy Has None size before after = after ≡ before
IsWrittenBy Has (Some field) size before after = (passes hit : Cell → Bool) (start : Cell) → IsFieldOf passes hit start field
    → AreTold (Has passes hit start) size before after
