use Rattle.landmarks.proofs.half_tables.HalfTable.gone_on.Goals as goal

pub returns-clause-begun : goal.returns-clause-begun
returns-clause-begun g c =
    let passes = g.V.View.passes c.args.view.now c.args.self.class in
    c.checked_on.ensures.begun passes
    (c.in_ok-half-4.ensures.begun passes
    (c.in_ok-half-3.ensures.begun passes
    (c.in_ok-half-2.ensures.begun passes c.in_ok-half.ensures.begun)))
