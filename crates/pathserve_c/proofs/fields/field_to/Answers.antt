use Rattle.std.proofs.Common.{subst}
use Rattle.std.specs.Prelude.{◌≡◌, IfOk}
use Rattle.goal_reach.specs.Targets.{hit_by}
use Rattle.flow_field.specs.Flows.{FieldCells, IsFieldOf}
use Rattle.grid_versions.specs.Versions.{MapState, passes_of}
use Rattle.pathserve_c.proofs.FieldLaws.{field_to_goal}
use Rattle.pathserve_c.proofs.fields.field_to.Goals as goal

pub returns : goal.returns
returns c =
    let target = c.made_reachable-target.result in let made = c.field.result in
    field_to_goal c.args.version.now c.args.class c.args.start c.args.goal.now target made c.made_reachable-target.ensures.targets
    (subst (λ (s : MapState). IfOk made (λ (field : FieldCells). field.size ≡ s.map.size)) c.class_view-view.ensures c.field.ensures.size)
    (subst (λ (s : MapState). IfOk made (IsFieldOf (passes_of s c.args.class) (hit_by target) c.args.start)) c.class_view-view.ensures c.field.ensures.field)
