use Rattle.std.proofs.Common.{ap, arith}
use Rattle.class_planes.specs.inner.Runs.{StepRange}
use Rattle.class_planes.proofs.StopLemmas.{few_steps}
use Rattle.class_planes.proofs.plane_scans.first_hit.Goals as goal

pub overflow_add-steps-end : goal.overflow_add-steps-end
overflow_add-steps-end g c =
    let same = ap (λ (r : StepRange). r.last) c.first.view_is in
    let most = c.steps_into.ensures.most in
    let few = few_steps c.args.size c.args.straight c.args.from c.args.count c.requires.room
    (omega (arith, c.args.size.wide)) (omega (arith, c.args.size.high))
    (c.requires.inside 0 (omega arith)) (c.requires.inside c.args.count (omega arith)) in
    omega (arith, same, most, few)
