use Rattle.std.proofs.Common.{List, IsFalse, sym, ap, subst, ◌∙◌, arith, not, eqb}
use Rattle.std.proofs.lemmas.Option.{slice_get_within}
use Rattle.jump_search.specs.declared.nodes.Node.{Node}
use Rattle.jump_search.specs.inner.Underway.{opened_count, IsFollowable, Follows}
use Rattle.jump_search.proofs.Listing.{one_item}
use Rattle.jump_search.proofs.Taking.{next_node, followable_opened, count_opened, node_free, opened_underway}
use Rattle.jump_search.proofs.searching.Search.take.Goals as goal

pub at-requires : goal.at-requires
at-requires g c =
    let passes = g.R.View.passes c.args.problem.now.runs.now c.args.problem.now.class in
    let hit = g.A.Aim.hit c.args.problem.now.aim.now (g.R.View.extent c.args.problem.now.runs.now) in
    let frontier = c.args.frontier.now in
    let t = c.requires.taken in
    let has = next_node (not (eqb g.row.ALL 0)) passes hit c.args.problem.now.start (g.E.Estimate.least c.args.ahead.now) t.0 frontier.nodes frontier.waiting c.args.self.now.best
    c.args.entry t.1 in
    slice_get_within frontier.nodes c.args.entry.key has.0 has.1.known

pub follow-requires : goal.follow-requires
follow-requires g c =
    let passes = g.R.View.passes c.args.problem.now.runs.now c.args.problem.now.class in
    let hit = g.A.Aim.hit c.args.problem.now.aim.now (g.R.View.extent c.args.problem.now.runs.now) in
    let frontier = c.args.frontier.now in
    let a = c.at.result.now in
    let t = c.requires.taken in (
      omega arith,
      (
        c.requires.class,
        (
          node_free passes hit c.args.problem.now.start frontier.nodes c.args.entry.key a c.requires.start
              t.1.underway.met c.at.ensures,
          (
            c.requires.aim,
            (
              c.requires.limit,
              subst (λ (ns : List Node). IsFollowable (not (eqb g.row.ALL 0)) passes hit
                  (g.E.Estimate.least c.args.ahead.now) a.state a.cost ns frontier.waiting) (sym c.put.ensures)
                  (followable_opened (not (eqb g.row.ALL 0)) passes hit c.args.problem.now.start
                  (g.E.Estimate.least c.args.ahead.now) t.0 frontier.nodes frontier.waiting c.args.self.now.best c.args.entry a
                  t.1 c.requires.ahead c.at.ensures),
            ),
          ),
        ),
      ),
    )

pub best_with-self-requires-clause-inside : goal.best_with-self-requires-clause-inside
best_with-self-requires-clause-inside g c =
    let passes = g.R.View.passes c.args.problem.now.runs.now c.args.problem.now.class in
    let hit = g.A.Aim.hit c.args.problem.now.aim.now (g.R.View.extent c.args.problem.now.runs.now) in
    let frontier = c.args.frontier.now in
    let t = c.requires.taken in
    g.met.R.View.within c.args.problem.now.runs.now c.args.problem.now.class c.at.result.now.state.cell
    (node_free passes hit c.args.problem.now.start frontier.nodes c.args.entry.key c.at.result.now c.requires.start t.1.underway.met c.at.ensures)

pub returns-clause-underway : goal.returns-clause-underway
returns-clause-underway g c = λ floor taken.
    let passes = g.R.View.passes c.args.problem.now.runs.now c.args.problem.now.class in
    let size = g.R.View.extent c.args.problem.now.runs.now in
    let hit = g.A.Aim.hit c.args.problem.now.aim.now size in
    let ahead = g.E.Estimate.least c.args.ahead.now in
    let frontier = c.args.frontier.now in
    let a = c.at.result.now in
    let new = c.follow.new.self in
    let start = c.args.problem.now.start in
    let met_free = node_free passes hit start frontier.nodes c.args.entry.key a c.requires.start taken.underway.met c.at.ensures in
    let follows = subst (λ (ns : List Node). Follows (not (eqb g.row.ALL 0)) passes hit start ahead a.state a.cost (λ other. Unit {0}) ns new.nodes
    frontier.waiting new.waiting) c.put.ensures c.in_ok-follow.ensures in
    opened_underway (not (eqb g.row.ALL 0)) passes hit start ahead floor frontier.nodes new.nodes frontier.waiting new.waiting
    c.args.self.now.best c.best_with-self.result c.args.entry a taken c.at.ensures
    (c.requires.ahead.none a.state.cell met_free)
    follows c.best_with-self.ensures.hit c.best_with-self.ensures.missed

pub returns-clause-opened : goal.returns-clause-opened
returns-clause-opened g c =
    let passes = g.R.View.passes c.args.problem.now.runs.now c.args.problem.now.class in
    let hit = g.A.Aim.hit c.args.problem.now.aim.now (g.R.View.extent c.args.problem.now.runs.now) in
    let frontier = c.args.frontier.now in
    let a = c.at.result.now in
    let t = c.requires.taken in
    let has = next_node (not (eqb g.row.ALL 0)) passes hit c.args.problem.now.start (g.E.Estimate.least c.args.ahead.now) t.0 frontier.nodes frontier.waiting c.args.self.now.best
    c.args.entry t.1 in
    let is = one_item frontier.nodes c.args.entry.key has.0 a has.1.known c.at.ensures in
    let not = subst (λ (n : Node). IsFalse n.opened) is has.1.unopened in
    let same = c.in_ok-follow.ensures.later.opened ∙ ap opened_count c.put.ensures in
    let count = count_opened frontier.nodes c.follow.new.self.nodes c.args.entry.key a c.at.ensures not same in
    let was = c.requires.opened in
    omega (arith, count, was)
