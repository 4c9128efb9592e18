-- What a search on a version asks for and gives.
use Rattle.std.specs.Prelude.{ℕ, Bool, ◌≡◌, ◌<◌, Option, Some, None, length, IsTrue, ⊤}
use Rattle.nav_types.specs.declared.cells.Cell.{Cell}
use Rattle.nav_types.specs.declared.cells.Rect.{Rect}
use Rattle.nav_types.specs.declared.cells.Size.{Size}
use Rattle.nav_types.specs.Frames.{IsFrame}
use Rattle.nav_types.specs.Regions.{HasArea}
use Rattle.nav_types.specs.Walks.{CanReach}
use Rattle.goal_shapes.specs.declared.goals.Goal.TheVariants.{NotCircle, NotSquare}
use Rattle.goal_reach.specs.declared.targets.Target.{Target}
use Rattle.goal_reach.specs.declared.targets.Target.TheVariants.{Goal as GoalTarget, Near}
use Rattle.goal_reach.specs.Rooms.{IsRoomIn}
use Rattle.goal_reach.specs.Targets.{hit_by, framed_by, IsSoundTarget}
use Rattle.walks.specs.Chosen.{IsAnswer}
use Rattle.walks.specs.declared.found_walk.Found.{Found}
use Rattle.landmarks.specs.Landmarks.{AreGentle}
use Rattle.landmarks.specs.Spans.{IsSpanned}
use Rattle.jump_search.specs.declared.estimates.CostlyEstimate.{CostlyEstimate}
use Rattle.jump_search.specs.declared.estimates.CostlyEstimate.TheVariants.{Past, OutOfDisc, OutOfTurned}
use Rattle.jump_search.specs.declared.estimates.Marked.{Marked}
use Rattle.flow_field.specs.Flows.{IsFieldOf, HasSummary}
use Rattle.posts.specs.declared.notes.Report.{Report}
use Rattle.posts.specs.declared.replies.PathAnswer.{PathAnswer}
use Rattle.grid_versions.specs.Versions.{MapState, passes_of}
use Rattle.turn_core.specs.Notes.{IsTold}
use Rattle.turn_core.specs.Solving.{is_near}
use Rattle.turn_core.specs.declared.last_fields.LastField.{LastField}
use Rattle.turn_core.specs.declared.searches.NotedPath.{NotedPath}

-- the start is passable for a class of the map, and the target is sound and can be reached from it
pub record CanFind (state : MapState) (class : ℕ) (start : Cell) (target : Target) : Type 0 where
  pub known : class < length state.map.classes
  pub passes : IsTrue (passes_of state class start)
  pub sound : IsSoundTarget state.map.size target
  pub reach : CanReach (passes_of state class) start (hit_by target)

-- the walk that is found is the chosen one to the target
abbrev pub IsFoundTo : MapState → ℕ → Cell → Target → Found → Type 0
IsFoundTo state class start target found =
    IsAnswer (passes_of state class) start (hit_by target) found.end found.cost.0 found.waypoints

-- the rectangle is room in the goal that is the target
abbrev pub IsRoomFor : Target → Rect → Type 0
IsRoomFor (GoalTarget goal) rect = IsRoomIn goal rect
IsRoomFor (Near cell) rect = ⊥

-- the target is what lies outside of the shape that the way leads out of
abbrev pub IsWayOut : Target → CostlyEstimate → Type 0
IsWayOut target (Past marked) = ⊥
IsWayOut target (OutOfDisc disc) = target ≡ GoalTarget (NotCircle disc.x disc.z disc.r)
IsWayOut target (OutOfTurned room) = target ≡ GoalTarget (NotSquare room.rectangle)

-- the rectangle has this cell and no other
pub record IsOnlyCell (rect : Rect) (cell : Cell) : Type 0 where
  pub west : rect.i0 ≡ cell.i
  pub east : rect.i1 ≡ cell.i
  pub south : rect.j0 ≡ cell.j
  pub north : rect.j1 ≡ cell.j

-- The rectangle is the target's, the tables are gentle, and the span spans the passable cells that the target hits.
pub record IsMarkedFor (passes : Cell → Bool) (size : Size) (target : Target) (marked : Marked) : Type 0 where
  pub frame : IsFrame (framed_by target) size marked.rect
  pub gentle : AreGentle passes marked.tables.now
  pub spanned : (cell : Cell) → IsTrue (passes cell) → IsTrue (hit_by target cell)
      → IsSpanned marked.tables.now marked.span cell

-- the path of a walk that was found
abbrev pub path_by : Cell → Target → Found → PathAnswer
path_by start target found =
    record { start = start; end = found.end; near = is_near target; cost = found.cost; waypoints = found.waypoints }

-- the path leads from the start to the target by the chosen walk, and the note is what the report tells of it
pub record IsNotedPath (state : MapState) (report : Report) (class : ℕ) (start : Cell) (target : Target) (noted : NotedPath) : Type 0 where
  pub begins : noted.path.start ≡ start
  pub nearness : noted.path.near ≡ is_near target
  pub walk : IsAnswer (passes_of state class) noted.path.start (hit_by target) noted.path.end noted.path.cost.0 noted.path.waypoints
  pub told : IsTold report (passes_of state class) state.map.size target noted.path noted.note

-- the field is that of its target's cells in its area, for its class
pub record IsFieldOn (state : MapState) (last : LastField) : Type 0 where
  pub start : Cell
  pub passes : IsTrue (passes_of state last.class start)
  pub area : HasArea (passes_of state last.class) start last.area
  pub field : IsFieldOf (passes_of state last.class) (hit_by last.target) start last.field
  pub summary : HasSummary (passes_of state last.class) (hit_by last.target) start last.summary

-- nothing is kept, or such a field
abbrev pub IsKeptOn : MapState → Option LastField → Type 0
IsKeptOn state None = ⊤
IsKeptOn state (Some last) = IsFieldOn state last

-- the field is that of the target's cells in the start's area
pub record Serves (state : MapState) (class : ℕ) (start : Cell) (target : Target) (last : LastField) : Type 0 where
  pub field : IsFieldOf (passes_of state class) (hit_by target) start last.field
  pub summary : HasSummary (passes_of state class) (hit_by target) start last.summary
