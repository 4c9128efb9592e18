-- The order in which jobs are drawn.
use Rattle.std.specs.Prelude.{ℕ, List, map, slice_index}
use Rattle.path_workers.specs.declared.ranking.RankedJob.{RankedJob}

-- the number of a ranked job
abbrev pub ranked_job : RankedJob → ℕ
ranked_job one = one.job

-- the jobs that stand at these places of the order
abbrev pub jobs_at : List ℕ → List ℕ → List ℕ
jobs_at order places = map (slice_index order) places
