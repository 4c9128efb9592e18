use Rattle.std.proofs.Common.{subst}
use Rattle.turn_core.specs.Solving.{IsAnswerTo}
use Rattle.turn_core.specs.declared.near_answers.Wanted.{Wanted}
use Rattle.turn_core.specs.inner.Wanted.{IsWanted}
use Rattle.turn_core.proofs.WantedWalks.{within_walked}
use Rattle.turn_core.proofs.near_answers.solve_within.Goals as goal

pub walked_within-requires : goal.walked_within-requires
walked_within-requires c =
    let state = c.args.version.now in
    let for = subst (λ (w : Wanted). IsWanted state (IsAnswerTo state.map state.standing c.args.request.now) w)
    c.in-Walked.is c.want_of.ensures in
    for.can

pub returns-in-Known : goal.returns-in-Known
returns-in-Known c =
    let state = c.args.version.now in
    let known = subst (λ (w : Wanted). IsWanted state (IsAnswerTo state.map state.standing c.args.request.now) w)
    c.in-Known.is c.want_of.ensures in
    (known.0, known.1 c.args.most)

pub returns-in-Walked : goal.returns-in-Walked
returns-in-Walked c =
    let state = c.args.version.now in
    let for = subst (λ (w : Wanted). IsWanted state (IsAnswerTo state.map state.standing c.args.request.now) w)
    c.in-Walked.is c.want_of.ensures in
    within_walked state c.args.request.now c.in-Walked.walk c.args.most c.walked_within.result for c.walked_within.ensures
