use Rattle.std.proofs.Common.{◌≡◌, drop}
use Rattle.path_service.specs.machine.Table.{why_unanswered}
use Rattle.turn_model.proofs.machines.causes.why_unanswered.Given as goal

abbrev pub invariant-loop-job : goal.invariant-loop-job
invariant-loop-job l = why_unanswered l.job (drop l.job l.answers) ≡ why_unanswered 0 l.answers
