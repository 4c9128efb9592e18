use Rattle.goal_reach.specs.Targets.{hit_by}
use Rattle.grid_versions.specs.Versions.{passes_of}
use Rattle.turn_core.proofs.last_fields.LastField.line.Goals as goal

pub returns : goal.returns
returns c = λ state class target serves. record {
  first = c.next.ensures (passes_of state class) (hit_by target) c.args.start serves.field;
  summary = serves.summary;
}
