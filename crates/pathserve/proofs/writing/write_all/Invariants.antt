-- What was written is the piece without what is left of it.
use Rattle.std.proofs.Common.{◌≤◌, length}
use Rattle.pathserve.proofs.Writes.{HasWritten}
use Rattle.pathserve.proofs.writing.write_all.Given as goal

abbrev pub invariant-loop-rest : goal.invariant-loop-rest
invariant-loop-rest g l = record {
  written : HasWritten (g.K.Sink.kept l.initial.sink) (g.K.Sink.kept l.sink) l.piece l.rest;
  later : g.K.Sink.faults l.initial.sink ≤ g.K.Sink.faults l.sink;
}

abbrev pub decreases-loop-rest : goal.decreases-loop-rest
decreases-loop-rest g l = length l.rest
