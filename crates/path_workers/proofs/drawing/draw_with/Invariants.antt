use Rattle.std.proofs.Common.{◌≡◌, false}
use Rattle.claim_board.proofs.Left.{left_of}
use Rattle.path_workers.specs.inner.Ranking.{jobs_at}
use Rattle.path_workers.specs.inner.Working.{job_numbers, AnswerTheirJobs}
use Rattle.path_workers.proofs.drawing.draw_with.Given as goal

abbrev pub invariant-drawing : goal.invariant-drawing
invariant-drawing g l = record {
  board : l.seat.board ≡ l.turn.claims.now;
  live : l.seat.ended ≡ false;
  share : l.seat.share ≡ l.fn.seat.share;
  numbers : job_numbers l.answered ≡ jobs_at l.turn.order.now l.seat.drawn;
  solver : l.solver ≡ record { state = l.turn.version.now; report = l.turn.report };
  answers : AnswerTheirJobs l.turn.version.now.map l.turn.version.now.standing l.turn.report l.turn.jobs.now l.answered;
}

abbrev pub decreases-drawing : goal.decreases-drawing
decreases-drawing g l = left_of l.seat
