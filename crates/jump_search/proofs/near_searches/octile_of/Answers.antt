use Rattle.std.proofs.Common.{subst}
use Rattle.nav_types.specs.Frames.{IsFrame}
use Rattle.jump_search.proofs.Answering.{begins}
use Rattle.jump_search.proofs.Framing.{octile_estimate}
use Rattle.jump_search.proofs.near_searches.octile_of.Goals as goal

pub returns : goal.returns
returns g c =
    let q = c.args.question.now in
    let known = begins g.R.View.extent g.R.View.passes g.A.Aim.sound g.A.Aim.hit g.A.Aim.framed g.met.R.View.within
    g.met.A.Aim.hits_framed q.runs.now q.class q.aim.now q.start c.requires in
    let frame = subst (λ s. IsFrame (g.A.Aim.framed q.aim.now s) s c.bounds-rect.result) c.size.ensures c.bounds-rect.ensures in
    octile_estimate _ _ _ _ c.bounds-rect.result known.within known.hits_framed frame
