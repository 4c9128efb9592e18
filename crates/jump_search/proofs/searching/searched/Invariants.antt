use Rattle.std.proofs.Common.{ℕ, ◌≡◌, ◌+◌, ◌-◌, not, eqb}
use Rattle.jump_search.specs.inner.Underway.{opened_count, IsUnderway}
use Rattle.jump_search.proofs.searching.searched.Given as goal

abbrev pub invariant-search : goal.invariant-search
invariant-search g l =
    let passes = g.R.View.passes l.problem.runs.now l.problem.class in
    let hit = g.A.Aim.hit l.problem.aim.now (g.R.View.extent l.problem.runs.now) in
    record {
      underway : (floor : ℕ) × IsUnderway (not (eqb g.row.ALL 0)) passes hit l.problem.start (g.E.Estimate.least l.ahead) floor l.frontier.nodes
          l.frontier.waiting l.search.best;
      opened : l.search.opened ≡ opened_count l.frontier.nodes;
      ticks : l.ticks ≡ l.initial.ticks + l.search.opened;
    }

abbrev pub decreases-search : goal.decreases-search
decreases-search g l = 4294967297 - l.search.opened
