use Rattle.std.proofs.Common.{ℕ, ◌∙◌, inl, inr, sym, ap, subst, Some}
use Rattle.std.proofs.lemmas.Bool.{both_ways}
use Rattle.nav_types.specs.Walks.{Joined}
use Rattle.goal_shapes.specs.Goals.{remoteness}
use Rattle.goal_reach.specs.inner.Ranking.{with_rank, IsPreferred, IsBest}
use Rattle.goal_reach.specs.inner.Rings.{IsInRun}
use Rattle.goal_reach.proofs.Running.{alone_best}
use Rattle.goal_reach.proofs.Stretching.{no_best, ends_best}
use Rattle.goal_reach.proofs.reaching.AreaCells.best_of_stretch.Goals as goal

pub returns-then-not-has : goal.returns-then-not-has
returns-then-not-has g c =
    let it = c.args.self.now in
    let passes = g.M.View.passes it.map.now it.class in
    no_best passes it.goal.now it.start c.args.axis c.args.line c.args.from c.args.past c.requires.stretch
    (λ joined. both_ways c.has.result c.if-not-has.true (c.has.ensures.1 (subst (Joined passes it.start) (sym c.cell_on-first.ensures) joined)))

pub returns-then-past-from : goal.returns-then-past-from
returns-then-past-from g c =
    let it = c.args.self.now in
    let passes = g.M.View.passes it.map.now it.class in let rank = remoteness it.goal.now in
    let joined = subst (Joined passes it.start) c.cell_on-first.ensures (c.has.ensures.0 c.if-not-has.false) in
    subst (λ (p : ℕ). IsBest rank (λ cell. Joined passes it.start cell × IsInRun c.args.axis c.args.line c.args.from p cell) (Some c.ranked.result))
    (sym c.if-past-from.true)
    (alone_best rank (Joined passes it.start) c.args.axis c.args.line c.args.from c.ranked.result (c.ranked.ensures ∙ ap (with_rank rank) c.cell_on-first.ensures) joined)

pub returns : goal.returns
returns g c =
    let it = c.args.self.now in
    let passes = g.M.View.passes it.map.now it.class in let rank = remoteness it.goal.now in
    let joined = subst (Joined passes it.start) c.cell_on-first.ensures (c.has.ensures.0 c.if-not-has.false) in
    let first = c.ranked-2.ensures ∙ ap (with_rank rank) c.cell_on-first.ensures in
    let last = c.ranked-3.ensures ∙ ap (with_rank rank) c.cell_on-last.ensures in
    ends_best passes it.goal.now it.start c.args.axis c.args.line c.args.from c.args.past c.preferred.result c.requires.stretch c.requires.goal
    c.requires.unreached joined
    (elim c.preferred.ensures.one [ inl same ↦ inl (same ∙ first) | inr same ↦ inr (same ∙ last) ])
    (subst (IsPreferred c.preferred.result) first c.preferred.ensures.first)
    (subst (IsPreferred c.preferred.result) last c.preferred.ensures.second)
