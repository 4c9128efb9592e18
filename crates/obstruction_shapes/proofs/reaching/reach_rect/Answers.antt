use Rattle.std.proofs.Common.{rules}
use Rattle.obstruction_shapes.specs.Blocking.{IsNear}
use Rattle.obstruction_shapes.proofs.Near.{blocked_near}
use Rattle.obstruction_shapes.proofs.reaching.reach_rect.Goals as goal

pub returns-in_default-clause-none_blocked : goal.returns-in_default-clause-none_blocked
returns-in_default-clause-none_blocked c = λ cell inside hit.
    let near = blocked_near c.args.shape.now c.args.clearance cell c.requires.unit_vector hit in
    let far : IsNear c.args.shape.now c.args.clearance cell → ⊥ = search rules in
    far near

pub returns-in_default-columns_near-clause-none_blocked : goal.returns-in_default-columns_near-clause-none_blocked
returns-in_default-columns_near-clause-none_blocked c = λ cell inside hit.
    let near = blocked_near c.args.shape.now c.args.clearance cell c.requires.unit_vector hit in
    let far : IsNear c.args.shape.now c.args.clearance cell → ⊥ = search rules in
    far near

pub returns-clause-blocked : goal.returns-clause-blocked
returns-clause-blocked c = λ cell inside hit.
    let near = blocked_near c.args.shape.now c.args.clearance cell c.requires.unit_vector hit in
    search rules
