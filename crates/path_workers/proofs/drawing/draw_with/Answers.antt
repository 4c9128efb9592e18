use Rattle.std.proofs.Common.{refl, sym, ap, subst, ◌∙◌}
use Rattle.std.specs.Prelude.{slice_index}
use Rattle.turn_core.specs.Solvers.{SolverState}
use Rattle.path_workers.specs.inner.Ranking.{jobs_at}
use Rattle.path_workers.specs.inner.Working.{HasOneMore}
use Rattle.claim_board.specs.Boards.{SeatState}
use Rattle.claim_board.proofs.Left.{left_of-falls}
use Rattle.path_workers.proofs.Working.{one_more}
use Rattle.path_workers.proofs.drawing.draw_with.Goals as goal

pub drawing-smaller : goal.drawing-smaller
drawing-smaller g c =
    let drawn = c.in-Job.ensures in
    left_of-falls c.args.turn.now.claims.now c.drawing.seat c.in-Job.next c.in-Job.place c.drawing.invariant.board drawn.below drawn.above drawn.job

pub drawing-preserved : goal.drawing-preserved
drawing-preserved g c =
    let kept = c.drawing.invariant in
    let next = c.in-Job.ensures.job in
    let one = subst (λ (s : SolverState). HasOneMore s.state.map s.state.standing s.report c.args.turn.now.jobs.now (slice_index c.args.turn.now.order.now c.in-Job.place)
    c.drawing.answered c.solve_job.new.answered) kept.solver c.in-Ok.ensures.answered in
    let more = one_more c.args.turn.now.version.now.map c.args.turn.now.version.now.standing c.args.turn.now.report c.args.turn.now.jobs.now
    c.args.turn.now.order.now c.in-Job.place (slice_index c.args.turn.now.order.now c.in-Job.place) c.drawing.answered c.solve_job.new.answered
    c.drawing.seat.drawn one refl kept.numbers kept.answers in
    record {
      board = ap (λ (seat : SeatState). seat.board) next ∙ kept.board;
      live = ap (λ (seat : SeatState). seat.ended) next ∙ kept.live;
      share = ap (λ (seat : SeatState). seat.share) next ∙ kept.share;
      numbers = more.0 ∙ sym (ap (λ (seat : SeatState). jobs_at c.args.turn.now.order.now seat.drawn) next);
      solver = c.solve_job.ensures.same ∙ kept.solver;
      answers = more.1;
    }
