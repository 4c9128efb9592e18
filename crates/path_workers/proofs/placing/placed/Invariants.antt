use Rattle.std.proofs.Common.{◌≡◌, All, length}
use Rattle.path_workers.specs.inner.Placing.{IsBelow, answer_of, note_of, placed}
use Rattle.path_workers.proofs.placing.placed.Given as goal

abbrev pub invariant-loop-next : goal.invariant-loop-next
invariant-loop-next l = record {
  answers_wide : length l.places.answers.items ≡ length l.initial.places.answers.items;
  notes_wide : length l.places.notes.items ≡ length l.initial.places.notes.items;
  answers_inside : All (IsBelow (length l.initial.places.answers.items)) l.answered.items;
  notes_inside : All (IsBelow (length l.initial.places.notes.items)) l.answered.items;
  answers : placed answer_of l.places.answers.items l.answered.items ≡ placed answer_of l.initial.places.answers.items l.initial.answered.items;
  notes : placed note_of l.places.notes.items l.answered.items ≡ placed note_of l.initial.places.notes.items l.initial.answered.items;
}

abbrev pub decreases-loop-next : goal.decreases-loop-next
decreases-loop-next l = goal.left-loop-next l
