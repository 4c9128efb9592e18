-- What was written, with the texts of the turns that are left, is the whole.
use Rattle.std.proofs.Common.{◌≡◌, ◌+◌, ◌≤◌, drop}
use Rattle.pathserve.specs.Output.{turn_texts}
use Rattle.pathserve.proofs.Writes.{HasWritten}
use Rattle.pathserve.proofs.serving.write_answers.Given as goal

abbrev pub invariant-loop-told : goal.invariant-loop-told
invariant-loop-told g l = record {
  number : l.number ≡ l.told-index;
  written : HasWritten (g.K.Sink.kept l.fn.sink) (g.K.Sink.kept l.sink) (turn_texts 1 l.closed.replies)
      (turn_texts (l.told-index + 1) (drop l.told-index l.closed.replies));
  later : g.K.Sink.faults l.fn.sink ≤ g.K.Sink.faults l.sink;
}
