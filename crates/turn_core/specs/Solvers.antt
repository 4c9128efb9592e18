-- One who answers the requests of a turn.
use Rattle.posts.specs.declared.notes.Report.{Report}
use Rattle.grid_versions.specs.Versions.{MapState}

-- the map with what stands on it, by which requests are answered, and what is told beside the answers
pub record SolverState : Type 0 where
  pub state : MapState
  pub report : Report
