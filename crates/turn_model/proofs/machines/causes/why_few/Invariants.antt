use Rattle.std.proofs.Common.{◌≡◌, drop}
use Rattle.path_service.specs.machine.Table.{why_few}
use Rattle.turn_model.proofs.machines.causes.why_few.Given as goal

abbrev pub invariant-loop-caller : goal.invariant-loop-caller
invariant-loop-caller l = why_few l.caller (drop l.caller l.posted) (drop l.caller l.taken) (drop l.caller l.takes) ≡ why_few 0 l.posted l.taken l.takes
