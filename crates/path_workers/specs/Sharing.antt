-- How many workers the jobs of a turn are worth. All coordinates are raw: a unit is a navcell's side over 65536.
use Rattle.std.specs.Prelude.{ℕ, ◌+◌, ◌/◌, ℤ, ◌-ℤ◌, List, Result, Ok, Err, max, min, sum_by, unsigned_abs}
use Rattle.fixed_point.specs.Plane.{square}
use Rattle.goal_shapes.specs.declared.goals.Goal.{Goal}
use Rattle.goal_shapes.specs.Limits.{middle_x, middle_z}
use Rattle.posts.specs.declared.edits.Refusal.{Refusal}
use Rattle.posts.specs.declared.notes.Report.{Report}
use Rattle.posts.specs.declared.notes.Report.TheVariants.{Flows}
use Rattle.posts.specs.declared.posts.Request.{Request}
use Rattle.posts.specs.declared.posts.Request.TheVariants.{Path, Region}
use Rattle.posts.specs.Maps.{Map}
use Rattle.turn_core.specs.Words.{Standing}
use Rattle.turn_core.specs.NamedGoals.{goal_found}
use Rattle.path_workers.specs.declared.sharing.TheConstants.{WORK_OF_A_WORKER, LEAST_WORK}

-- how many whole navcells two coordinates lie apart
abbrev pub apart : ℤ → ℤ → ℕ
apart one other = unsigned_abs (one -ℤ other) / 65536

-- how far the middle of a goal lies from a point, along the columns or the rows, whichever is farther
abbrev pub distance_to : ℤ → ℤ → Goal → ℕ
distance_to x z goal = max (apart x (middle_x goal)) (apart z (middle_z goal))

-- the work of a path whose goal lies so far away, in navcells; where a flow field is made for it, that of a worker
abbrev pub path_work : Report → ℕ → ℕ
path_work Flows distance = WORK_OF_A_WORKER
path_work _ distance = LEAST_WORK + square distance

-- the work of a path from a point to the goal that it names; none where that is refused
abbrev pub work_to : Report → ℤ → ℤ → Result Goal Refusal → ℕ
work_to report x z (Ok goal) = path_work report (distance_to x z goal)
work_to report x z (Err refusal) = 0

-- the work of a job; a region is looked up
abbrev pub work_of : Map → Standing → Report → Request → ℕ
work_of map standing report (Path request) = work_to report request.x request.z (goal_found map standing request.goal)
work_of map standing report (Region query) = 0

-- how many of so many workers: one for each whole share of the work, and one at least
abbrev pub worth_workers : Map → Standing → Report → List Request → ℕ → ℕ
worth_workers map standing report jobs most =
    max (min (sum_by (work_of map standing report) jobs / WORK_OF_A_WORKER) most) 1
