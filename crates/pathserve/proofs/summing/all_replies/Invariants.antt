use Rattle.std.proofs.Common.{◌≡◌, ◌≤◌, ◌<◌, ◌^◌, ℕ, length, take}
use Rattle.std.specs.Prelude.{vec_capacity}
use Rattle.turn_core.proofs.TurnByTurn.{HasAnswered}
use Rattle.pathserve.proofs.summing.all_replies.Given as goal

abbrev pub invariant-loop-posts : goal.invariant-loop-posts
invariant-loop-posts g l = record {
  has : HasAnswered l.map (take (length l.yielded) l.fn.journal) l.version l.all.items;
  count : length l.all.items ≡ length l.yielded;
  takes : (count : ℕ) → count < 2 ^ 32 → g.A.Answerer.takes l.answerer count;
  room : length l.fn.journal ≤ vec_capacity l.all;
}
