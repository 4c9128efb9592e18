use Rattle.std.proofs.Common.{◌≡◌, ◌≤◌, length, take}
use Rattle.std.specs.Prelude.{vec_capacity}
use Rattle.turn_core.specs.Notes.{AreNotes}
use Rattle.turn_core.specs.Solving.{AreAnswersTo}
use Rattle.turn_core.proofs.one_threads.OneThreadAnswerer.noted_answers.Given as goal

abbrev pub invariant-loop-job : goal.invariant-loop-job
invariant-loop-job l = record {
  solver : l.solver ≡ record { state = l.version; report = l.fn.report };
  count : length l.answers.items ≡ l.job-index;
  same : length l.notes.items ≡ l.job-index;
  room : length l.requests ≤ vec_capacity l.answers;
  more : length l.requests ≤ vec_capacity l.notes;
  answers : AreAnswersTo l.version.map l.version.standing (take l.job-index l.requests) l.answers.items;
  notes : AreNotes l.version.map l.version.standing l.fn.report (take l.job-index l.requests) l.notes.items;
}
