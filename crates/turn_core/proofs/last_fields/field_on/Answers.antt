use Rattle.std.proofs.Common.{IfOk, subst}
use Rattle.goal_reach.specs.Targets.{hit_by}
use Rattle.flow_field.specs.Flows.{IsFieldOf}
use Rattle.grid_versions.specs.Versions.{MapState, passes_of}
use Rattle.turn_core.proofs.last_fields.field_on.Goals as goal

pub returns : goal.returns
returns c =
    subst (λ (s : MapState). IfOk c.field.result (IsFieldOf (passes_of s c.args.class) (hit_by c.args.target.now) c.args.start))
    c.class_view-view.ensures c.field.ensures.field
