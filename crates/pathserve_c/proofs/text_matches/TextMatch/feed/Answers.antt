use Rattle.std.proofs.Common.{ℕ, List, IsTrue, sym, subst}
use Rattle.pathserve_c.specs.LineLimits.{IsLimitAfter, fits_limit}
use Rattle.pathserve_c.specs.Texts.{TextState, Feeds}
use Rattle.pathserve_c.proofs.Feeding.{fed_of_piece, front_fits, waits_behind, with_taken}
use Rattle.pathserve_c.proofs.text_matches.TextMatch.feed.Goals as goal

pub returns : goal.returns
returns c =
    let its = c.self.inside in let old = its.game in let new = c.feed-answer.new.self in
    let piece = c.args.bytes.now.now in
    let left = c.feed-answer.new.bytes.now in
    let plays = c.feed-answer.ensures.plays in
    let fed = plays.plays.taken in
    let limit = c.limit_after-self-inside.result in
    subst (λ (s : TextState). Feeds s (with_taken its.taken new limit) piece left c.feed-answer.result) c.self.view_is
    (record {
      plays = plays;
      all = c.feed-answer.ensures.all;
      waits = waits_behind its.taken old new plays.plays.text c.self.invariant plays.plays.waits;
      ended = c.feed-answer.ensures.ended;
      kept = c.feed-answer.ensures.kept;
      stays = c.feed-answer.ensures.stays;
      why = c.feed-answer.ensures.why;
      limit = subst (λ (l : List ℕ). IsLimitAfter its.limit l limit) (fed_of_piece piece fed left plays.plays.took) c.limit_after-self-inside.ensures;
    })

pub limit_after-self-inside-requires : goal.limit_after-self-inside-requires
limit_after-self-inside-requires c =
    let its = c.self.inside in
    let piece = c.args.bytes.now.now in
    let left = c.feed-answer.new.bytes.now in
    let plays = c.feed-answer.ensures.plays in
    let fed = plays.plays.taken in
    let fits = subst (λ (s : TextState). IsTrue (fits_limit s.limit piece)) (sym c.self.view_is) c.requires.fits in
    subst (λ (l : List ℕ). IsTrue (fits_limit its.limit l)) (sym (fed_of_piece piece fed left plays.plays.took))
    (front_fits its.limit piece fed left plays.plays.took fits)
