use Rattle.std.proofs.Common.{◌≡◌, ◌≤◌, length}
use Rattle.std.specs.Prelude.{vec_capacity}
use Rattle.path_workers.proofs.placing.blank_places.Given as goal

abbrev pub invariant-loop : goal.invariant-loop
invariant-loop l = record {
  answers : length l.answers.items ≡ l.counter;
  notes : length l.notes.items ≡ l.counter;
  room : l.count ≤ vec_capacity l.answers;
  more : l.count ≤ vec_capacity l.notes;
}
