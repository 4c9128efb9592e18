use Rattle.std.proofs.Common.{ℕ, arith, subst, sym}
use Rattle.flow_field.specs.declared.spreading.FieldSpread.{FieldSpread}
use Rattle.flow_field.specs.inner.Spreads.{WaitsIn, KeepsSpreading}
use Rattle.flow_field.proofs.Taking.{held, held_taken, keeps_more, weight_less}
use Rattle.flow_field.proofs.spreading.FieldSpread.run.Goals as goal

pub take-requires : goal.take-requires
take-requires c = λ spot waits.
    let inner = (held c.args.width spot c.args.self.now c.places.self c.requires c.places.invariant waits).inner in
    omega (arith, inner.above)

pub relax-requires-clause-inner : goal.relax-requires-clause-inner
relax-requires-clause-inner c =
    let taken = c.in-Some.ensures.some in
    let was = held c.args.width c.in-Some.at c.args.self.now c.places.self c.requires c.places.invariant taken.waited in
    (held_taken c.args.width c.in-Some.at c.places.self c.take.new.self was taken).inner

pub relax-requires-clause-reached : goal.relax-requires-clause-reached
relax-requires-clause-reached c =
    let taken = c.in-Some.ensures.some in
    let was = held c.args.width c.in-Some.at c.args.self.now c.places.self c.requires c.places.invariant taken.waited in
    (held_taken c.args.width c.in-Some.at c.places.self c.take.new.self was taken).below

pub places-preserved : goal.places-preserved
places-preserved c =
    keeps_more c.args.width c.in-Some.at c.args.self.now c.places.self c.take.new.self c.relax.new.self c.places.invariant c.in-Some.ensures.some c.in_ok-relax.ensures

pub places-smaller : goal.places-smaller
places-smaller c = weight_less c.args.width c.in-Some.at c.places.self c.take.new.self c.relax.new.self c.in-Some.ensures.some c.in_ok-relax.ensures

pub returns-clause-keeps : goal.returns-clause-keeps
returns-clause-keeps c = subst (λ (s : FieldSpread). KeepsSpreading c.args.width c.args.self.now s) (sym c.in_default.ensures.same) c.places.invariant

pub returns-clause-none : goal.returns-clause-none
returns-clause-none c = subst (λ (s : FieldSpread). (spot : ℕ) → WaitsIn s spot → ⊥) (sym c.in_default.ensures.same) c.in_default.ensures.none
