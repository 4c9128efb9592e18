use Rattle.goal_reach.specs.Targets.{hit_by}
use Rattle.flow_field.proofs.SameFields.{answer_far}
use Rattle.turn_core.proofs.request_laws.paths_cost_their_distance.Goals as goal

pub returns : goal.returns
returns c = λ passes x z goal path answer.
    (answer.target, (answer.targets, answer_far passes (hit_by answer.target) path.start path.end path.cost.0 path.waypoints answer.walk))
