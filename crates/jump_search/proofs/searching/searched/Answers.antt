use Rattle.std.proofs.Common.{ℕ, ◌≡◌, ◌+◌, ◌⊎◌, List, inr, sym, ap, subst, ◌∙◌, arith, not, eqb}
use Rattle.jump_search.specs.declared.nodes.Node.{Node}
use Rattle.jump_search.specs.inner.Underway.{opened_count, IsTaken, IsHalted, HasEnded}
use Rattle.jump_search.proofs.Relaxing.{count_most}
use Rattle.jump_search.proofs.Halting.{halted, ended, on_err_from}
use Rattle.jump_search.proofs.searching.searched.Goals as goal

pub search-init : goal.search-init
search-init g c =
    let passes = g.R.View.passes c.args.problem.now.runs.now c.args.problem.now.class in
    let hit = g.A.Aim.hit c.args.problem.now.aim.now (g.R.View.extent c.args.problem.now.runs.now) in
    let made = c.in_ok-search.ensures in
    let none = made.none in
    record { underway = (0, made.underway (not (eqb g.row.ALL 0)) passes hit); opened = made.opened; ticks = omega (arith, none) }

pub take-requires : goal.take-requires
take-requires g c =
    let passes = g.R.View.passes c.args.problem.now.runs.now c.args.problem.now.class in
    let hit = g.A.Aim.hit c.args.problem.now.aim.now (g.R.View.extent c.args.problem.now.runs.now) in
    let search = c.search.search in
    let frontier = c.search.frontier in
    let next = c.next.new.frontier in
    let known = c.search.invariant.underway in
    let step = c.next.ensures in
    let some = c.in-Some.ensures in
    let ahead = g.E.Estimate.least c.args.ahead.now in
    let entry = c.in-Some.entry in
    let taken : IsTaken (not (eqb g.row.ALL 0)) passes hit c.args.problem.now.start ahead known.0 frontier.nodes next.waiting
    search.best entry =
    record {
      before = frontier.waiting;
      underway = known.1;
      least = some.least;
      rest = some.rest;
      near =
          some.near;
    } in (
      omega arith,
      (
        c.requires.class,
        (
          c.requires.aim,
          (
            c.requires.ahead,
            (
              c.requires.limit,
              (
                c.requires.start,
                (
                  (
                    known.0,
                    subst (λ (ns : List Node). IsTaken (not (eqb g.row.ALL 0)) passes hit c.args.problem.now.start ahead known.0 ns next.waiting
                        search.best entry) (sym step.nodes) taken,
                  ),
                  c.search.invariant.opened ∙ ap opened_count (sym step.nodes),
                ),
              ),
            ),
          ),
        ),
      ),
    )

pub search-smaller : goal.search-smaller
search-smaller g c =
    let entry = c.in-Some.entry in
    let known = c.search.invariant.underway.1 in
    let few = known.few in
    let opened = c.search.invariant.opened in
    let one = c.in_ok-take.ensures.one in
    let most = count_most c.search.frontier.nodes in
    omega (arith, few, opened, one, most)

pub search-preserved : goal.search-preserved
search-preserved g c =
    let passes = g.R.View.passes c.args.problem.now.runs.now c.args.problem.now.class in
    let hit = g.A.Aim.hit c.args.problem.now.aim.now (g.R.View.extent c.args.problem.now.runs.now) in
    let search = c.search.search in
    let frontier = c.search.frontier in
    let next = c.next.new.frontier in
    let known = c.search.invariant.underway in
    let step = c.next.ensures in
    let some = c.in-Some.ensures in
    let ahead = g.E.Estimate.least c.args.ahead.now in
    let entry = c.in-Some.entry in
    let taken : IsTaken (not (eqb g.row.ALL 0)) passes hit c.args.problem.now.start ahead known.0 frontier.nodes next.waiting
    search.best entry =
    record {
      before = frontier.waiting;
      underway = known.1;
      least = some.least;
      rest = some.rest;
      near =
          some.near;
    } in
    let taken_next = subst (λ (ns : List Node). IsTaken (not (eqb g.row.ALL 0)) passes hit c.args.problem.now.start ahead known.0 ns
    next.waiting search.best entry) (sym step.nodes) taken in
    let went = c.in_ok-take.ensures in
    let before = c.search.invariant.ticks in let ticked = went.ticks in
    record {
      underway = (entry.estimate, went.underway known.0 taken_next);
      opened = went.opened;
      ticks = omega (arith, before, ticked);
    }

pub returns-in_err-take-clause-halted : goal.returns-in_err-take-clause-halted
returns-in_err-take-clause-halted g c =
    let passes = g.R.View.passes c.args.problem.now.runs.now c.args.problem.now.class in
    let hit = g.A.Aim.hit c.args.problem.now.aim.now (g.R.View.extent c.args.problem.now.runs.now) in
    let ahead = g.E.Estimate.least c.args.ahead.now in
    let known = c.search.invariant in
    let ticks : c.take.new.ticks ≡ c.args.ticks.now + opened_count c.search.frontier.nodes =
    c.in_err-take.ensures.none ∙ known.ticks ∙ ap (λ (n : ℕ). c.args.ticks.now + n) known.opened in
    let is = halted (not (eqb g.row.ALL 0)) passes hit c.args.problem.now.start ahead known.underway.0
    c.search.frontier.nodes c.search.frontier.waiting c.search.search.best known.underway.1 in
    let told : (c.take.new.ticks ≡ c.args.ticks.now) ⊎ ((nodes : List Node)
    × ((floor : ℕ) × (IsHalted (not (eqb g.row.ALL 0)) passes hit c.args.problem.now.start ahead floor nodes
    × (c.take.new.ticks ≡ c.args.ticks.now + opened_count nodes)))) =
    inr (c.search.frontier.nodes, (known.underway.0, (is, ticks))) in
    on_err_from c.from_residual-in_err-take.result _ told

pub returns-clause-ended : goal.returns-clause-ended
returns-clause-ended g c =
    let passes = g.R.View.passes c.args.problem.now.runs.now c.args.problem.now.class in
    let hit = g.A.Aim.hit c.args.problem.now.aim.now (g.R.View.extent c.args.problem.now.runs.now) in
    let ahead = g.E.Estimate.least c.args.ahead.now in
    let search = c.search.search in
    let known = c.search.invariant.underway in
    let is = ended (not (eqb g.row.ALL 0)) passes hit c.args.problem.now.start ahead known.0 c.search.frontier.nodes
    c.search.frontier.waiting search.best known.1 c.in_default.ensures.past in
    subst (λ (ns : List Node). HasEnded (not (eqb g.row.ALL 0)) passes hit c.args.problem.now.start ahead ns search.best)
    (sym c.next.ensures.nodes) is
