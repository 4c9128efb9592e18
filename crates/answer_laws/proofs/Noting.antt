-- Each request has a note under each report.
use Rattle.std.proofs.Common.{ℕ, ◌≡◌, Bool, true, false, List, [], ◌∷◌, ℤ, Option, None, Some, Result, Ok, Err, IsTrue, refl, inl, inr}
use Rattle.nav_types.specs.declared.cells.Cell.{Cell}
use Rattle.nav_types.specs.declared.cells.Size.{Size}
use Rattle.nav_types.specs.Cells.{IsInside}
use Rattle.nav_types.specs.Walks.{CanReach}
use Rattle.nav_types.proofs.Walking.{IsWalk-passes}
use Rattle.goal_shapes.specs.declared.goals.Goal.{Goal}
use Rattle.goal_shapes.specs.inner.Framing.{contains_framed}
use Rattle.goal_reach.specs.declared.targets.Target.{Target}
use Rattle.goal_reach.specs.declared.targets.Target.TheVariants.{Goal as GoalTarget, Near}
use Rattle.goal_reach.specs.Targets.{hit_by, framed_by}
use Rattle.walks.specs.Chosen.{IsAnswer}
use Rattle.walks.proofs.Tracing.{chosen_walk}
use Rattle.line_smooth.proofs.Legs.{corners_of_answer}
use Rattle.posts.specs.declared.edits.Refusal.{Refusal}
use Rattle.posts.specs.declared.edits.Refusal.TheVariants.{UnknownClass, StartOutside}
use Rattle.posts.specs.declared.notes.FlowLine.{FlowLine}
use Rattle.posts.specs.declared.notes.Note.{Note}
use Rattle.posts.specs.declared.notes.Note.TheVariants.{Nothing, Opened, Flow, Smoothed}
use Rattle.posts.specs.declared.notes.Report.{Report}
use Rattle.posts.specs.declared.notes.Report.TheVariants.{Answers, OpenedNumbers, Flows, Smoothed as SmoothedPaths}
use Rattle.posts.specs.declared.posts.Request.{Request}
use Rattle.posts.specs.declared.posts.PathRequest.{PathRequest}
use Rattle.posts.specs.declared.posts.Request.TheVariants.{Path as AsksPath, Region as AsksRegion}
use Rattle.posts.specs.declared.replies.PathAnswer.{PathAnswer}
use Rattle.posts.specs.declared.replies.Answer.{Answer}
use Rattle.posts.specs.declared.replies.Answer.TheVariants.{Refused, Nowhere, Path as IsPath}
use Rattle.posts.specs.Maps.{Map}
use Rattle.grid_versions.specs.Passing.{passable_at}
use Rattle.grid_versions.specs.inner.PassingLaws.{passes_within}
use Rattle.grid_versions.specs.Versions.{map_state}
use Rattle.turn_core.specs.Words.{Standing}
use Rattle.turn_core.specs.NamedGoals.{class_named, is_on_map, goal_found}
use Rattle.turn_core.specs.Solving.{IsPathAnswer, IsPathFound, IsAnswerAt, IsAnswerTo}
use Rattle.turn_core.specs.Notes.{IsTold, IsNoteTo, IsPathNote, IsNoteBy, IsNote, AreNotes}
use Rattle.answer_laws.proofs.Listing.{cells_of}
use Rattle.answer_laws.proofs.Distances.{HasAll}
use Rattle.answer_laws.proofs.Fields.{next_step, summary}
use Rattle.answer_laws.proofs.Smoothing.{smoothing}
use Rattle.answer_laws.proofs.Framing.{target_frame}
use Rattle.answer_laws.proofs.Opening.{opened_number}
use Rattle.answer_laws.proofs.Requests.{start_cell, path_from, has_all, region_answer}

-- a cell that the target hits is framed
hit_framed : (target : Target) (cell : Cell) → IsTrue (hit_by target cell) → IsTrue (framed_by target cell)
hit_framed (GoalTarget goal) cell is = contains_framed goal cell is
hit_framed (Near near) cell is = is

module _ (passes : Cell → Bool) (size : Size) (cells : List Cell) (whole : HasAll passes cells)
    (within : (cell : Cell) → IsTrue (passes cell) → IsInside size cell) where
  told : (report : Report) (target : Target) (path : PathAnswer) → IsTrue (passes path.start)
      → IsAnswer passes path.start (hit_by target) path.end path.cost.0 path.waypoints
      → (note : Note) × IsTold report passes size target path note
  told Answers target path passing answer = (Nothing, refl)
  told OpenedNumbers target path passing answer =
      let walk = chosen_walk passes path.start path.end answer.walk.0 answer.walk.1.0 in
      let ends = IsWalk-passes passes answer.walk.0 path.start path.end passing walk in
      let frame = target_frame target size path.end (within path.end ends) (hit_framed target path.end answer.is_hit) in
      let opened = opened_number passes cells whole (hit_by target) path.start passing frame.0 path.cost.0 in
      (Opened opened.0, (opened.0, (refl, record { box = frame.0; frame = frame.1; counted = opened.1 })))
  told Flows target path passing answer =
      let walk = chosen_walk passes path.start path.end answer.walk.0 answer.walk.1.0 in
      let reach : CanReach passes path.start (hit_by target) = (path.end, (answer.is_hit, (answer.walk.0, walk))) in
      let next = next_step passes (hit_by target) cells whole path.start passing reach in
      let sums = summary passes (hit_by target) cells whole path.start passing reach in
      let line : FlowLine = record { first = next.0; summary = sums.0 } in
      (Flow line, (line, (refl, record { first = next.1; summary = sums.1 })))
  told SmoothedPaths target path passing answer =
      let corners = corners_of_answer passes (hit_by target) path.start path.end path.cost.0 path.waypoints answer in
      let points = smoothing passes path.start path.waypoints corners in
      (Smoothed points.0, (points.0, (refl, points.1)))

  note_of_path : (report : Report) (x z : ℤ) (goal : Goal) (path : PathAnswer) → IsPathAnswer passes x z goal path
      → (note : Note) × IsNoteTo report passes size goal path note
  note_of_path report x z goal path is =
      let note = told report is.target path is.start_cell.passable is.walk in
      (note.0, record { target = is.target; targets = is.targets; told = note.1 })

-- an answer to a path request, with its note
abbrev NotedPath : Map → Standing → Report → PathRequest → Option ℕ → Bool → Result Goal Refusal → Type 0
NotedPath m standing report request named on_map goal = (answer : Answer) × ((note : Note)
    × (IsAnswerAt named on_map (λ class. IsPathFound (passable_at m standing class) request.x request.z goal) answer
    × IsNoteBy (IsPathNote m standing report request) answer note))

path_noted : (m : Map) (standing : Standing) (report : Report) (request : PathRequest)
    (named : Option ℕ) → class_named m request.class ≡ named → (on_map : Bool) (goal : Result Goal Refusal) → goal_found m standing request.goal ≡ goal
    → NotedPath m standing report request named on_map goal
path_noted m standing report request None known on_map goal is = (Refused UnknownClass, (Nothing, (refl, refl)))
path_noted m standing report request (Some class) known false goal is = (Refused StartOutside, (Nothing, (refl, refl)))
path_noted m standing report request (Some class) known true (Err refusal) is = (Refused refusal, (Nothing, (refl, refl)))
path_noted m standing report request (Some class) known true (Ok goal) is =
    let x = request.x in let z = request.z in
    let passes : Cell → Bool = passable_at m standing class in
    let cells = cells_of m.size in
    let whole = has_all m standing class in
    elim (start_cell passes cells whole x z) [
      | inl nowhere ↦ (Nowhere, (Nothing, (inl (nowhere, refl), refl)))
      | inr start ↦
          let path = path_from passes cells whole x z goal start.0 start.1 in
          let note = note_of_path passes m.size cells whole (passes_within (map_state m standing) class) report x z goal path.0 path.1 in (
            IsPath path.0,
            (
              note.0,
              (
                inr (path.0, (refl, path.1)),
                record { class = class; named = known; goal = goal; found = is; noted = note.1 },
              ),
            ),
          )
    ]

pub note_to : (m : Map) (standing : Standing) (report : Report) (request : Request) → (note : Note) × IsNote m standing report request note
unfolding IsNote IsAnswerTo
note_to m standing report (AsksPath request) =
    let noted = path_noted m standing report request (class_named m request.class) refl (is_on_map m.size request.x request.z)
    (goal_found m standing request.goal) refl in
    (noted.1.0, (noted.0, (noted.1.1.0, noted.1.1.1)))
note_to m standing report (AsksRegion query) =
    let answer = region_answer m standing query in (Nothing, (answer.0, (answer.1, refl)))

pub notes_to : (m : Map) (standing : Standing) (report : Report) (requests : List Request)
    → (notes : List Note) × AreNotes m standing report requests notes
notes_to m standing report [] = ([], tt)
notes_to m standing report (request ∷ requests) =
    let first = note_to m standing report request in
    let rest = notes_to m standing report requests in
    (first.0 ∷ rest.0, (first.1, rest.1))
