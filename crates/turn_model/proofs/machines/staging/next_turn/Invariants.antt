use Rattle.std.proofs.Common.{◌≡◌, ◌++◌, drop, length, map}
use Rattle.path_service.specs.machine.Effects.{next_posts, added_up}
use Rattle.turn_model.proofs.machines.staging.next_turn.Given as goal

abbrev pub invariant-loop-caller : goal.invariant-loop-caller
invariant-loop-caller l = record {
  turn : l.next.turn ++ next_posts (drop l.caller l.posted) (drop l.caller l.taken) (drop l.caller l.takes) ≡ next_posts l.posted l.taken l.takes;
  taken : l.next.taken.items ++ added_up (drop l.caller l.taken) (map length (next_posts (drop l.caller l.posted) (drop l.caller l.taken) (drop l.caller l.takes)))
      ≡ added_up l.taken (map length (next_posts l.posted l.taken l.takes));
}
