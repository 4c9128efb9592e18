use Rattle.std.proofs.Common.{◌<◌, ◌^◌, ℕ}
use Rattle.pathserve.specs.inner.Sessions.{HasComeTo}
use Rattle.pathserve.proofs.sessions.make_turns.Given as goal

abbrev pub invariant-loop : goal.invariant-loop
invariant-loop g l = record {
  can_next : (goal.iterator-loop g).can_next l.iterator';
  finite : (goal.iterator-loop g).is_finite l.iterator';
  takes : (count : ℕ) → count < 2 ^ 32 → g.A.Answerer.takes l.answerer count;
  come : HasComeTo l.fn.driver l.driver l.delivered l.next;
}
