use Rattle.std.proofs.Common.{Ok, Some, rules, sym, ◌≡◌}
use Rattle.turn_core.specs.NamedGoals.{class_named, goal_found}
use Rattle.pathserve_c.proofs.FieldLaws.{field_named}
use Rattle.pathserve_c.proofs.fields.field_named.Goals as goal

pub returns : goal.returns
returns c =
    let version = c.args.version.now in
    let named : class_named version.map c.args.name.now ≡ Some c.in-Some.class = search rules in
    let found : goal_found version.map version.standing c.args.spec.now ≡ Ok c.in-Ok.goal = sym c.in-Ok.ensures.found in
    field_named version c.args.name.now c.args.spec.now c.args.start c.in-Some.class c.in-Ok.goal c.field_to.result named found c.field_to.ensures
