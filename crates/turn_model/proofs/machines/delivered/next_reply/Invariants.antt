use Rattle.std.proofs.Common.{ℕ, length, ◌-◌}
use Rattle.turn_model.specs.inner.Runs.{HasCome}
use Rattle.turn_model.proofs.machines.delivered.next_reply.Given as goal

abbrev pub invariant-loop-at : goal.invariant-loop-at
invariant-loop-at l =
    (count : ℕ) → HasCome l.delivered l.caller count l.fn.from → HasCome l.delivered l.caller count l.at

abbrev pub decreases-loop-at : goal.decreases-loop-at
decreases-loop-at l = length l.delivered - l.at.turn
