use Rattle.std.proofs.Common.{sym, subst}
use Rattle.posts.specs.declared.posts.Request.{Request}
use Rattle.grid_versions.specs.Passing.{passable_at}
use Rattle.turn_core.specs.Solving.{IsAnswerTo}
use Rattle.turn_core.specs.inner.Wanted.{IsWanted}
use Rattle.turn_core.proofs.WantedWalks.{region_near}
use Rattle.turn_core.proofs.near_answers.want_of.Goals as goal

pub returns-in-Path : goal.returns-in-Path
unfolding IsAnswerTo
returns-in-Path c =
    let state = c.args.version.now in
    subst (λ (request : Request). IsWanted state (IsAnswerTo state.map state.standing request) c.want_of_path.result)
    (sym c.in-Path.is) c.want_of_path.ensures

pub returns-in-Region : goal.returns-in-Region
unfolding IsAnswerTo
returns-in-Region c =
    let state = c.args.version.now in (
      subst (λ (request : Request). IsAnswerTo state.map state.standing request c.region_asked.result) (sym c.in-Region.is)
          c.region_asked.ensures,
      region_near _ _ (λ class. passable_at state.map state.standing class) _ _ _ c.region_asked.ensures,
    )
