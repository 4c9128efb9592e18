-- The items so far were played on what stands, and no count has fallen. No line was bad.
use Rattle.std.proofs.Common.{◌≡◌, ◌≤◌, ◌<◌, ◌^◌, ◌-◌, ℕ, None}
use Rattle.std.specs.Prelude.{IsFalse}
use Rattle.match_play.specs.Grounds.{FitsPart, said_of, turns_in}
use Rattle.pathserve.proofs.Replaying.{Stands}
use Rattle.pathserve.proofs.replay.replay_by.Given as goal

abbrev pub invariant-items : goal.invariant-items
invariant-items g l = record {
  stands : Stands l.fn.report (g.S.Source.left l.fn.source) (g.S.Source.left l.source) (g.K.Sink.kept l.fn.sink) (g.K.Sink.kept l.sink) l.reader (said_of l.progress);
  takes : (count : ℕ) → count < 2 ^ 32 → g.A.Answerer.takes l.answerer count;
  quiet : l.why ≡ None;
  going : IsFalse l.reader.over;
  fits : FitsPart l.progress l.reader.place.part;
  few : turns_in l.progress ≤ l.reader.place.bytes;
  reads : g.S.Source.faults l.fn.source ≤ g.S.Source.faults l.source;
  writes : g.K.Sink.faults l.fn.sink ≤ g.K.Sink.faults l.sink;
}

abbrev pub decreases-items : goal.decreases-items
decreases-items g l = 4294967296 - l.reader.place.bytes
