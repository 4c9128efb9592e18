use Rattle.std.proofs.Common.{ℕ, [], IsTrue, length}
use Rattle.match_play.specs.Playing.{Plays}
use Rattle.match_play.specs.inner.Fitting.{IsFit, IsGoing}
use Rattle.match_play.proofs.match_states.read_rest.Given as goal

abbrev pub invariant-items : goal.invariant-items
invariant-items g l = record {
  plays : Plays l.fn.match_state l.match_state [] [];
  takes : (count : ℕ) → g.A.Answerer.takes l.answerer count;
  fit : IsFit l.match_state;
  going : IsGoing l.match_state.next_item;
  ended : IsTrue l.match_state.ended;
}

abbrev pub decreases-items : goal.decreases-items
decreases-items g l = length l.match_state.script.bytes
