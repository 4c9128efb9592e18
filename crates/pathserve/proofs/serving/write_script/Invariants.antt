-- What was written, with the turns that are left, is the whole.
use Rattle.std.proofs.Common.{◌≡◌, ◌+◌, ◌≤◌, drop}
use Rattle.script_text.specs.ReadsBack.{canon_script, canon_turns}
use Rattle.pathserve.proofs.Writes.{HasWritten}
use Rattle.pathserve.proofs.serving.write_script.Given as goal

abbrev pub invariant-loop-turn : goal.invariant-loop-turn
invariant-loop-turn g l = record {
  number : l.number ≡ l.turn-index;
  written : HasWritten (g.K.Sink.kept l.fn.sink) (g.K.Sink.kept l.sink) (canon_script l.closed.map l.closed.journal)
      (canon_turns l.closed.map (l.turn-index + 1) (drop l.turn-index l.closed.journal));
  later : g.K.Sink.faults l.fn.sink ≤ g.K.Sink.faults l.sink;
}
