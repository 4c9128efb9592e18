use Rattle.std.proofs.Common.{◌≡◌, ◌≤◌, ◌*◌, sum_by, take}
use Rattle.path_workers.specs.Sharing.{work_of}
use Rattle.path_workers.proofs.sharing.work_of_all.Given as goal

abbrev pub invariant-loop-job : goal.invariant-loop-job
invariant-loop-job l = (l.work ≡ sum_by (work_of l.version.map l.version.standing l.report) (take l.job-index l.jobs)) × (l.work ≤ l.job-index * 4294967295)
