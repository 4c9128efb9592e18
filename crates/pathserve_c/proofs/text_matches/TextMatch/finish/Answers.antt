use Rattle.std.proofs.Common.{refl, subst}
use Rattle.pathserve_c.specs.Texts.{TextState, Finishes}
use Rattle.pathserve_c.proofs.Feeding.{waits_behind, with_taken}
use Rattle.pathserve_c.proofs.text_matches.TextMatch.finish.Goals as goal

pub returns : goal.returns
returns c =
    let its = c.self.inside in let old = its.game in let new = c.finish.new.self in
    let plays = c.finish.ensures.plays in
    subst (λ (s : TextState). Finishes s (with_taken its.taken new its.limit) c.finish.result) c.self.view_is
    (record {
      plays = plays;
      waits = waits_behind its.taken old new plays.text c.self.invariant plays.waits;
      ended = c.finish.ensures.ended;
      over = c.finish.ensures.over;
      again = c.finish.ensures.again;
      kept = c.finish.ensures.kept;
      why = c.finish.ensures.why;
      limit = refl;
    })
