use Rattle.std.proofs.Common.{◌≡◌, ℕ, ◌<◌, List, sym, ap, ◌∙◌, subst}
use Rattle.nav_types.specs.Counting.{Lists}
use Rattle.claim_board.specs.inner.ClaimWord.{jobs_among}
use Rattle.claim_board.proofs.Whole.{closes}
use Rattle.claim_board.proofs.claims.Claims.close.Goals as goal

pub returns-clause-all : goal.returns-clause-all
returns-clause-all c =
    let known = c.seat.inside.place.me.0 in
    let seen = c.seat.view_is in
    let jobs : known.jobs ≡ c.args.self.jobs = ap (λ seat. seat.board.jobs) seen ∙ ap (λ board. board.jobs) c.requires.own in
    let list : jobs_among known.jobs known.drawn ≡ c.of.result.value.drawn = ap (λ seat. seat.drawn) (seen ∙ sym c.of.ensures) in
    subst (λ (z : ℕ × List ℕ). Lists (λ job. job < z.0) z.1) (λ i. (jobs i, list i))
    (closes _ _ known _ _ c.close_with.ensures.values.2 (ap (λ seat. seat.share) seen ∙ c.requires.whole) (ap (λ seat. seat.ended) seen ∙ c.requires.ended))
