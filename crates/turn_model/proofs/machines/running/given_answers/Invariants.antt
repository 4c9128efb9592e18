use Rattle.std.proofs.Common.{◌≡◌, ◌≤◌, ◌++◌, length}
use Rattle.std.specs.Prelude.{vec_capacity}
use Rattle.std.specs.Vec.Iter.{into_iter_items}
use Rattle.path_service.specs.machine.Effects.{known}
use Rattle.turn_model.proofs.machines.running.given_answers.Given as goal

abbrev pub invariant-loop-answer : goal.invariant-loop-answer
invariant-loop-answer l = record {
  items : l.yielded ++ into_iter_items l.answer-iterator ≡ l.fn.answers.items;
  made : l.given.items ≡ known l.yielded;
  room : length l.fn.answers.items ≤ vec_capacity l.given;
}
