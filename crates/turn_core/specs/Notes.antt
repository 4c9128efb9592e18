-- What is told beside the answers to requests.
use Rattle.std.specs.Prelude.{ℕ, ◌≡◌, Bool, true, false, List, [], ◌∷◌, Option, Some, None, Ok}
use Rattle.nav_types.specs.declared.cells.Cell.{Cell}
use Rattle.nav_types.specs.declared.cells.Rect.{Rect}
use Rattle.nav_types.specs.declared.cells.Size.{Size}
use Rattle.nav_types.specs.Counting.{Counts}
use Rattle.nav_types.specs.Frames.{IsFrame}
use Rattle.goal_shapes.specs.declared.goals.Goal.{Goal}
use Rattle.goal_reach.specs.declared.targets.Target.{Target}
use Rattle.goal_reach.specs.Targets.{hit_by, framed_by, AreTargets}
use Rattle.jump_search.specs.JumpStates.{IsOpened}
use Rattle.flow_field.specs.Flows.{IsNext, HasSummary}
use Rattle.line_smooth.specs.Smoothed.{IsSmoothing}
use Rattle.posts.specs.Maps.{Map}
use Rattle.posts.specs.declared.notes.FlowLine.{FlowLine}
use Rattle.posts.specs.declared.notes.Note.{Note}
use Rattle.posts.specs.declared.notes.Note.TheVariants.{Nothing, Opened, Flow, Smoothed}
use Rattle.posts.specs.declared.notes.Noted.{Noted}
use Rattle.posts.specs.declared.notes.Report.{Report}
use Rattle.posts.specs.declared.notes.Report.TheVariants.{Answers, OpenedNumbers, Flows, Smoothed as SmoothedPaths}
use Rattle.posts.specs.declared.posts.PathRequest.{PathRequest}
use Rattle.posts.specs.declared.posts.Request.{Request}
use Rattle.posts.specs.declared.posts.Request.TheVariants.{Path as AsksPath, Region as AsksRegion}
use Rattle.posts.specs.declared.replies.PathAnswer.{PathAnswer}
use Rattle.posts.specs.declared.replies.Answer.{Answer}
use Rattle.posts.specs.declared.replies.Answer.TheVariants.{Path as IsPath}
use Rattle.grid_versions.specs.Passing.{passable_at}
use Rattle.turn_core.specs.Words.{Standing}
use Rattle.turn_core.specs.NamedGoals.{class_named, goal_found}
use Rattle.turn_core.specs.Solving.{IsAnswerTo}

-- The opened number of a path to its targets: how many jump states from its start to them have a least cost of jumps that,
-- with the octile distance to the targets' box, is within the cost of the path.
pub record IsOpenedNumber (passes : Cell → Bool) (size : Size) (target : Target) (path : PathAnswer) (opened : ℕ) : Type 0 where
  pub box : Rect
  pub frame : IsFrame (framed_by target) size box
  pub counted : Counts (IsOpened passes (hit_by target) path.start box path.cost.0) opened

-- what the flow field of the hit cells in the start's area tells of the start: the step to take there, and what the field
-- has in all
pub record IsFlowLine (passes hit : Cell → Bool) (start : Cell) (line : FlowLine) : Type 0 where
  pub first : IsNext passes hit start start line.first
  pub summary : HasSummary passes hit start line.summary

-- what is told under a report of a path to its targets
abbrev pub IsTold : Report → (Cell → Bool) → Size → Target → PathAnswer → Note → Type 0
IsTold Answers passes size target path note = note ≡ Nothing
IsTold OpenedNumbers passes size target path note =
    (opened : ℕ) × ((note ≡ Opened opened) × IsOpenedNumber passes size target path opened)
IsTold Flows passes size target path note =
    (line : FlowLine) × ((note ≡ Flow line) × IsFlowLine passes (hit_by target) path.start line)
IsTold SmoothedPaths passes size target path note =
    (points : List Cell) × ((note ≡ Smoothed points) × IsSmoothing passes path.start path.waypoints points)

-- whether a report tells something of each path
abbrev pub tells : Report → Bool
tells Answers = false
tells report = true

-- whether a note tells something
abbrev pub says : Note → Bool
says Nothing = false
says note = true

-- the note of a path to a goal: what is told of it by the targets of the goal
pub record IsNoteTo (report : Report) (passes : Cell → Bool) (size : Size) (goal : Goal) (path : PathAnswer) (note : Note) : Type 0 where
  pub target : Target
  pub targets : AreTargets passes path.start goal target
  pub told : IsTold report passes size target path note

-- the note of a path of the class and to the goal that a request names
pub record IsPathNote (map : Map) (standing : Standing) (report : Report) (request : PathRequest) (path : PathAnswer) (note : Note) : Type 0 where
  pub class : ℕ
  pub named : class_named map request.class ≡ Some class
  pub goal : Goal
  pub found : goal_found map standing request.goal ≡ Ok goal
  pub noted : IsNoteTo report (passable_at map standing class) map.size goal path note

-- the note of an answer that may be a path; of one that is none, nothing is told
abbrev pub IsNoteBy : (PathAnswer → Note → Type 0) → Answer → Note → Type 0
IsNoteBy IsNoteOfPath (IsPath path) note = IsNoteOfPath path note
IsNoteBy IsNoteOfPath answer note = note ≡ Nothing

-- the note of an answer to a request under a report
abbrev pub IsNoteOf : Map → Standing → Report → Request → Answer → Note → Type 0
IsNoteOf map standing report (AsksPath request) answer note = IsNoteBy (IsPathNote map standing report request) answer note
IsNoteOf map standing report (AsksRegion query) answer note = note ≡ Nothing

-- the answer to a request with its note
pub record IsNotedTo (map : Map) (standing : Standing) (report : Report) (request : Request) (noted : Noted) : Type 0 where
  pub answered : IsAnswerTo map standing request noted.answer
  pub told : IsNoteOf map standing report request noted.answer noted.note

-- the note of a request: that of its answer
unfoldable pub IsNote : Map → Standing → Report → Request → Note → Type 0
IsNote map standing report request note =
    (answer : Answer) × (IsAnswerTo map standing request answer × IsNoteOf map standing report request answer note)

-- the notes of requests, one each, in their order
abbrev pub AreNotes : Map → Standing → Report → List Request → List Note → Type 0
AreNotes map standing report [] [] = Unit {0}
AreNotes map standing report (request ∷ requests) (note ∷ notes) =
    IsNote map standing report request note × AreNotes map standing report requests notes
AreNotes map standing report _ _ = ⊥

-- what a note tells of a flow field, if anything
abbrev pub flow_in : Note → Option FlowLine
flow_in (Flow line) = Some line
flow_in note = None
