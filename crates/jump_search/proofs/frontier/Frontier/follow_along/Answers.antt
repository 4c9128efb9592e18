use Rattle.std.proofs.Common.{sym, ◌∙◌, IsTrue, not, eqb}
use Rattle.std.proofs.lemmas.Bool.{both_ways}
use Rattle.nav_types.specs.DirSets.{holds}
use Rattle.jump_search.proofs.Landing.{HasLanded, estimate_landed, follows_noted, follows_none, follows_pruned}
use Rattle.jump_search.proofs.Landing.{followable_later, jump_most, moves_to_stop}
use Rattle.jump_search.proofs.frontier.Frontier.follow_along.Goals as goal

pub returns-then-not-has-clause-follows : goal.returns-then-not-has-clause-follows
returns-then-not-has-clause-follows g c =
    let passes = g.R.View.passes c.args.problem.now.runs.now c.args.problem.now.class in
    let hit = g.A.Aim.hit c.args.problem.now.aim.now (g.R.View.extent c.args.problem.now.runs.now) in
    let node = c.args.node.now in
    follows_pruned (not (eqb g.row.ALL 0)) passes hit c.args.problem.now.start (g.E.Estimate.least c.args.ahead.now) node.state node.cost c.args.dir c.args.self.now.nodes
    c.args.self.now.waiting
    (λ is. both_ways c.has.result c.if-not-has.true (c.has.ensures ∙ c.requires.successors.1 is))

pub returns-in_default-clause-follows : goal.returns-in_default-clause-follows
returns-in_default-clause-follows g c =
    let passes = g.R.View.passes c.args.problem.now.runs.now c.args.problem.now.class in
    let hit = g.A.Aim.hit c.args.problem.now.aim.now (g.R.View.extent c.args.problem.now.runs.now) in
    let node = c.args.node.now in
    follows_none (not (eqb g.row.ALL 0)) passes hit c.args.problem.now.start (g.E.Estimate.least c.args.ahead.now) node.state node.cost c.args.dir c.args.self.now.nodes
    c.args.self.now.waiting c.in_default.ensures.none

pub landed-next-requires-clause-moves : goal.landed-next-requires-clause-moves
landed-next-requires-clause-moves g c =
    moves_to_stop (g.R.View.passes c.args.problem.now.runs.now c.args.problem.now.class) (g.A.Aim.hit c.args.problem.now.aim.now (g.R.View.extent c.args.problem.now.runs.now))
    c.args.dir c.args.node.now.state.cell c.in-Some.stop c.in-Some.ensures.some

pub offer-requires-clause-queued : goal.offer-requires-clause-queued
offer-requires-clause-queued g c =
    let passes = g.R.View.passes c.args.problem.now.runs.now c.args.problem.now.class in
    let hit = g.A.Aim.hit c.args.problem.now.aim.now (g.R.View.extent c.args.problem.now.runs.now) in
    let f = c.requires.followable in
    let node = c.args.node.now in
    let made = c.landed-next.ensures in
    let landed : HasLanded node.state node.cost c.args.dir c.in-Some.stop c.landed-next.result =
    record { cell = made.cell; arrived = made.arrived; costs = made.cost; run = made.run } in (
      (not (eqb g.row.ALL 0)),
      (
        f.floor,
        (
          f.going.queued,
          estimate_landed passes hit (g.E.Estimate.least c.args.ahead.now) node.state node.cost f.floor c.args.dir
              c.in-Some.stop c.landed-next.result f.consistent c.in-Some.ensures.some landed f.early,
        ),
      ),
    )

pub returns-clause-follows : goal.returns-clause-follows
returns-clause-follows g c =
    let passes = g.R.View.passes c.args.problem.now.runs.now c.args.problem.now.class in
    let size = g.R.View.extent c.args.problem.now.runs.now in
    let hit = g.A.Aim.hit c.args.problem.now.aim.now size in
    let node = c.args.node.now in
    let made = c.landed-next.ensures in
    let landed : HasLanded node.state node.cost c.args.dir c.in-Some.stop c.landed-next.result =
    record { cell = made.cell; arrived = made.arrived; costs = made.cost; run = made.run } in
    let is = c.in-Some.ensures.some in
    let most = jump_most passes hit size c.args.dir node.state.cell c.in-Some.stop
    (g.met.R.View.within c.args.problem.now.runs.now c.args.problem.now.class) c.requires.cell is in
    let kept : IsTrue (holds c.args.dirs c.args.dir) = sym c.has.ensures ∙ c.if-not-has.false in
    let successor = c.requires.successors.0 kept in
    follows_noted (not (eqb g.row.ALL 0)) passes hit c.args.problem.now.start (g.E.Estimate.least c.args.ahead.now) node.state node.cost c.args.dir c.in-Some.stop
    c.landed-next.result
    c.args.self.now.nodes c.offer.new.self.nodes c.args.self.now.waiting c.offer.new.self.waiting successor is landed
    most c.requires.followable.consistent c.in_ok-offer.ensures

pub returns-clause-followable : goal.returns-clause-followable
returns-clause-followable g c =
    followable_later (returns-clause-follows g c) c.requires.followable
