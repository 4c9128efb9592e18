use Rattle.std.proofs.Common.{ap, subst}
use Rattle.nav_types.specs.declared.cells.Rect.{Rect}
use Rattle.nav_types.specs.Frames.{IsFrame}
use Rattle.jump_search.specs.JumpStates.{octile_to}
use Rattle.jump_search.proofs.Answering.{begins, told_over}
use Rattle.jump_search.proofs.Framing.{octile_estimate, one_frame}
use Rattle.jump_search.proofs.search.by_octile.Goals as goal

pub answered-requires-clause-ahead : goal.answered-requires-clause-ahead
answered-requires-clause-ahead g c =
    let q = c.args.question.now in
    let known = begins g.R.View.extent g.R.View.passes g.A.Aim.sound g.A.Aim.hit g.A.Aim.framed g.met.R.View.within
    g.met.A.Aim.hits_framed q.runs.now q.class q.aim.now q.start c.requires.search in
    let frame = subst (λ s. IsFrame (g.A.Aim.framed q.aim.now s) s c.bounds-rect.result) c.size.ensures
    c.bounds-rect.ensures in
    octile_estimate _ _ _ _ c.bounds-rect.result known.within known.hits_framed frame

pub returns-clause-opened : goal.returns-clause-opened
returns-clause-opened g c =
    let q = c.args.question.now in
    let size = g.R.View.extent q.runs.now in
    let framed = g.A.Aim.framed q.aim.now size in
    let base = c.bounds-rect.result in
    let frame : IsFrame framed size base = subst (λ s. IsFrame (g.A.Aim.framed q.aim.now s) s base) c.size.ensures
    c.bounds-rect.ensures in
    told_over c.answered.result (λ traced told is rect other.
    told is rect (ap (λ (r : Rect). octile_to r) (one_frame framed size base rect frame other))) c.answered.ensures.opened
