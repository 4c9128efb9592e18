use Rattle.std.proofs.Common.{◌≡◌, ap, subst, sym, ◌∙◌}
use Rattle.match_play.specs.Posted.{PostedState, standing_in, turns_of}
use Rattle.match_play.specs.inner.Kept.{past_of}
use Rattle.match_play.proofs.Saving.{anew_held, held_stands}
use Rattle.match_play.proofs.posted.PostedMatch.forget.Goals as goal

pub invariant_of-self : goal.invariant_of-self
invariant_of-self c =
    let a = c.self.inside in
    let newest = subst (λ (s : PostedState). s.map.version ≡ 3) (sym c.self.view_is) c.requires.newest in
    let count : c.turns.result ≡ turns_of (past_of a.version.standing a.ended) =
    c.turns.ensures ∙ ap (λ (s : PostedState). turns_of s.past) (sym c.self.view_is) in
    anew_held a.version a.ended c.turns.result c.in_ok-journal.journal newest count c.in_ok-journal.ensures.callers c.self.invariant
    c.in_ok-journal.ensures.journal

pub returns-clause-stands : goal.returns-clause-stands
returns-clause-stands c =
    let a = c.self.inside in
    let newest = subst (λ (s : PostedState). s.map.version ≡ 3) (sym c.self.view_is) c.requires.newest in
    let count : c.turns.result ≡ turns_of (past_of a.version.standing a.ended) =
    c.turns.ensures ∙ ap (λ (s : PostedState). turns_of s.past) (sym c.self.view_is) in
    let leads = anew_held a.version a.ended c.turns.result c.in_ok-journal.journal newest count c.in_ok-journal.ensures.callers c.self.invariant
    c.in_ok-journal.ensures.journal in
    sym leads.stands ∙ (held_stands a.version a.ended c.self.invariant ∙ ap standing_in c.self.view_is)
