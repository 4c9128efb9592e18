use Rattle.std.proofs.Common.{◌+◌, ℕ, List, sym, ap, subst, ◌∙◌, arith, not, eqb}
use Rattle.jump_search.specs.declared.nodes.Node.{Node}
use Rattle.jump_search.specs.inner.Nearby.{HasEndedWithin}
use Rattle.jump_search.specs.inner.Underway.{opened_count, IsTaken}
use Rattle.jump_search.proofs.Relaxing.{count_most}
use Rattle.jump_search.proofs.Within.{ended_within, halted_within}
use Rattle.jump_search.proofs.near_searches.searched_within.Goals as goal

pub search-init : goal.search-init
search-init g c =
    let passes = g.R.View.passes c.args.problem.now.runs.now c.args.problem.now.class in
    let hit = g.A.Aim.hit c.args.problem.now.aim.now (g.R.View.extent c.args.problem.now.runs.now) in
    let made = c.in_ok-search.ensures in
    let none = made.none in
    record {
      underway = (0, (omega arith, made.underway (not (eqb g.row.ALL 0)) passes hit));
      opened = made.opened;
      ticks = omega (arith, none);
    }

pub take-requires : goal.take-requires
take-requires g c =
    let passes = g.R.View.passes c.args.problem.now.runs.now c.args.problem.now.class in
    let hit = g.A.Aim.hit c.args.problem.now.aim.now (g.R.View.extent c.args.problem.now.runs.now) in
    let ahead = g.E.Estimate.least c.args.ahead.now in
    let frontier = c.search.frontier in
    let next = c.next_within.new.frontier in
    let known = c.search.invariant.underway in
    let some = c.in-Some.ensures in
    let taken : IsTaken (not (eqb g.row.ALL 0)) passes hit c.args.problem.now.start ahead known.0 frontier.nodes
    next.waiting c.search.search.best c.in-Some.entry =
    record { before = frontier.waiting; underway = known.1.1; least = some.least; rest = some.rest; near = some.near } in (
      omega arith,
      (
        c.requires.class,
        (
          c.requires.aim,
          (
            c.requires.ahead,
            (
              c.requires.limit,
              (
                c.requires.start,
                (
                  (
                    known.0,
                    subst (λ (ns : List Node). IsTaken (not (eqb g.row.ALL 0)) passes hit c.args.problem.now.start ahead known.0 ns
                        next.waiting c.search.search.best c.in-Some.entry) (sym c.next_within.ensures.nodes) taken,
                  ),
                  c.search.invariant.opened ∙ ap opened_count (sym c.next_within.ensures.nodes),
                ),
              ),
            ),
          ),
        ),
      ),
    )

pub search-smaller : goal.search-smaller
search-smaller g c =
    let few = c.search.invariant.underway.1.1.few in
    let opened = c.search.invariant.opened in
    let one = c.in_ok-take.ensures.one in
    let most = count_most c.search.frontier.nodes in
    omega (arith, few, opened, one, most)

pub search-preserved : goal.search-preserved
search-preserved g c =
    let passes = g.R.View.passes c.args.problem.now.runs.now c.args.problem.now.class in
    let hit = g.A.Aim.hit c.args.problem.now.aim.now (g.R.View.extent c.args.problem.now.runs.now) in
    let ahead = g.E.Estimate.least c.args.ahead.now in
    let frontier = c.search.frontier in
    let next = c.next_within.new.frontier in
    let known = c.search.invariant.underway in
    let some = c.in-Some.ensures in
    let taken : IsTaken (not (eqb g.row.ALL 0)) passes hit c.args.problem.now.start ahead known.0 frontier.nodes
    next.waiting c.search.search.best c.in-Some.entry =
    record { before = frontier.waiting; underway = known.1.1; least = some.least; rest = some.rest; near = some.near } in
    let taken_next = subst (λ (ns : List Node). IsTaken (not (eqb g.row.ALL 0)) passes hit c.args.problem.now.start ahead
    known.0 ns next.waiting c.search.search.best c.in-Some.entry) (sym c.next_within.ensures.nodes) taken in
    let went = c.in_ok-take.ensures in
    let before = c.search.invariant.ticks in
    let ticked = went.ticks in
    record {
      underway = (c.in-Some.entry.estimate, (some.low, went.underway known.0 taken_next));
      opened = went.opened;
      ticks = omega (arith, before, ticked);
    }

pub returns-in_err-take-clause-halted : goal.returns-in_err-take-clause-halted
returns-in_err-take-clause-halted g c =
    let known = c.search.invariant in
    halted_within (not (eqb g.row.ALL 0)) _ _ c.args.problem.now.start (g.E.Estimate.least c.args.ahead.now) c.args.most
    known.underway.0 c.search.frontier.nodes c.search.frontier.waiting c.search.search.best c.args.ticks.now
    c.take.new.ticks known.underway.1.1 known.underway.1.0
    (c.in_err-take.ensures.none ∙ known.ticks ∙ ap (λ (n : ℕ). c.args.ticks.now + n) known.opened)

pub returns-clause-halted : goal.returns-clause-halted
returns-clause-halted g c =
    let known = c.search.invariant in
    halted_within (not (eqb g.row.ALL 0)) _ _ c.args.problem.now.start (g.E.Estimate.least c.args.ahead.now) c.args.most
    known.underway.0 c.search.frontier.nodes c.search.frontier.waiting c.search.search.best c.args.ticks.now
    c.search.ticks known.underway.1.1 known.underway.1.0
    (known.ticks ∙ ap (λ (n : ℕ). c.args.ticks.now + n) known.opened)

pub returns-clause-ended : goal.returns-clause-ended
returns-clause-ended g c =
    let passes = g.R.View.passes c.args.problem.now.runs.now c.args.problem.now.class in
    let hit = g.A.Aim.hit c.args.problem.now.aim.now (g.R.View.extent c.args.problem.now.runs.now) in
    let ahead = g.E.Estimate.least c.args.ahead.now in
    let best = c.search.search.best in
    let known = c.search.invariant.underway in
    subst (λ (ns : List Node). HasEndedWithin (not (eqb g.row.ALL 0)) passes hit c.args.problem.now.start ahead c.args.most ns
    best)
    (sym c.next_within.ensures.nodes)
    (ended_within (not (eqb g.row.ALL 0)) passes hit c.args.problem.now.start ahead c.args.most known.0
    c.search.frontier.nodes c.search.frontier.waiting best known.1.1 known.1.0 c.requires.ahead
    c.in_default.ensures.past)
