use Rattle.std.proofs.Common.{◌∙◌, sym, ap}
use Rattle.nav_types.specs.declared.cells.Size.{Size}
use Rattle.goal_shapes.specs.declared.goals.GoalSpec.{GoalSpec}
use Rattle.posts.specs.Maps.{Map}
use Rattle.turn_core.specs.NamedGoals.{goal_found, plain_goal}
use Rattle.turn_core.proofs.named_goals.goal_of.Goals as goal

pub returns-in-Plain-clause-found : goal.returns-in-Plain-clause-found
unfolding goal_found
returns-in-Plain-clause-found c =
    let version = c.args.version.now in
    c.plain_goal.ensures.found
    ∙ ap (λ (size : Size). plain_goal size c.in-Plain.goal) (c.size.ensures ∙ ap (λ (map : Map). map.size) c.map.ensures)
    ∙ ap (λ (spec : GoalSpec). goal_found version.map version.standing spec) (sym c.in-Plain.is)
