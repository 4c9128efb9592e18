-- Paths with what a report tells of them.
use Rattle.std.proofs.Common.{ℕ, ℤ, sym, subst}
use Rattle.nav_types.specs.declared.cells.Cell.{Cell}
use Rattle.walks.specs.declared.found_walk.Found.{Found}
use Rattle.line_smooth.specs.Smoothed.{AreCorners}
use Rattle.line_smooth.proofs.Legs.{corners_of_answer}
use Rattle.goal_shapes.specs.declared.goals.Goal.{Goal}
use Rattle.goal_reach.specs.declared.targets.Target.{Target}
use Rattle.goal_reach.specs.Starts.{IsStartCell}
use Rattle.goal_reach.specs.Targets.{hit_by, AreTargets}
use Rattle.posts.specs.declared.notes.Report.{Report}
use Rattle.grid_versions.specs.Versions.{MapState, passes_of}
use Rattle.turn_core.specs.Solving.{IsPathAnswer}
use Rattle.turn_core.specs.Notes.{IsNoteTo}
use Rattle.turn_core.specs.declared.searches.NotedPath.{NotedPath}
use Rattle.turn_core.specs.inner.Searching.{IsFoundTo, IsNotedPath}

-- the waypoints of a walk that was found are the corners of a legal one
pub found_corners : (state : MapState) (class : ℕ) (start : Cell) (target : Target) (found : Found) → IsFoundTo state class start target found
    → AreCorners (passes_of state class) start found.waypoints
found_corners state class start target found is =
    corners_of_answer (passes_of state class) (hit_by target) start found.end found.cost.0 found.waypoints is

-- a path from the start cell to the targets of a goal answers
pub path_answers : (state : MapState) (report : Report) (class : ℕ) (x z : ℤ) (start : Cell) (goal : Goal) (target : Target) (noted : NotedPath)
    → IsStartCell (passes_of state class) x z start → AreTargets (passes_of state class) start goal target
    → IsNotedPath state report class start target noted → IsPathAnswer (passes_of state class) x z goal noted.path
path_answers state report class x z start goal target noted starts targets is = record {
  start_cell = subst (λ (c : Cell). IsStartCell (passes_of state class) x z c) (sym is.begins) starts;
  target = target;
  targets = subst (λ (c : Cell). AreTargets (passes_of state class) c goal target) (sym is.begins) targets;
  nearness = is.nearness;
  walk = is.walk;
}

-- and what is told of it is its note
pub path_noted : (state : MapState) (report : Report) (class : ℕ) (start : Cell) (goal : Goal) (target : Target) (noted : NotedPath)
    → AreTargets (passes_of state class) start goal target → IsNotedPath state report class start target noted
    → IsNoteTo report (passes_of state class) state.map.size goal noted.path noted.note
path_noted state report class start goal target noted targets is = record {
  target = target;
  targets = subst (λ (c : Cell). AreTargets (passes_of state class) c goal target) (sym is.begins) targets;
  told = is.told;
}
