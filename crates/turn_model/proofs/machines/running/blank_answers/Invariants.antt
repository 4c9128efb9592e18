use Rattle.std.proofs.Common.{◌≡◌, None, replicate}
use Rattle.turn_model.proofs.machines.running.blank_answers.Given as goal

abbrev pub invariant-loop-job : goal.invariant-loop-job
invariant-loop-job l = l.answers.items ≡ replicate l._job None
