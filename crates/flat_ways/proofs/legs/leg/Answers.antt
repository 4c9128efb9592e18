use Rattle.std.proofs.Common.{ℕ, ◌≡◌, ◌<◌, subst, arith}
use Rattle.std.proofs.lemmas.Bool.{both_ways}
use Rattle.nav_types.specs.declared.cells.Cell.{Cell}
use Rattle.nav_types.specs.Cells.{IsInside}
use Rattle.flat_ways.specs.inner.Legs.{IsOnLeg}
use Rattle.flat_ways.proofs.LegWalks.{leg_arrives, leg_begins, leg_blocked, leg_goes, leg_heading, leg_misses, leg_moves}
use Rattle.flat_ways.proofs.legs.leg.Goals as goal

pub returns-in_default-clause-none : goal.returns-in_default-clause-none
returns-in_default-clause-none g c = λ other leg.
    leg_moves (g.V.View.passes c.args.view.now c.args.class) other c.args.from c.args.to c.in_default.ensures.none leg

pub loop-walked-init : goal.loop-walked-init
loop-walked-init g c =
    let long = c.steps_between-steps.ensures in (
      leg_begins (g.V.View.passes c.args.view.now c.args.class) c.in-Some.dir c.steps_between-steps.result c.args.from c.args.to c.in-Some.ensures.some
          (record { columns = long.columns; rows = long.rows; one = long.one }),
      c.requires.inside,
    )

pub step-requires-clause-inside : goal.step-requires-clause-inside
step-requires-clause-inside g c = c.loop-walked.invariant.1

pub returns-in_default-step-clause-none : goal.returns-in_default-step-clause-none
returns-in_default-step-clause-none g c =
    let less : c.loop-walked.walked < c.steps_between-steps.result = omega (arith, c.loop-walked-test.true) in
    leg_blocked (g.V.View.passes c.args.view.now c.args.class) c.in-Some.dir c.steps_between-steps.result c.args.from c.args.to c.loop-walked.walked c.loop-walked.at
    less c.loop-walked.invariant.0 c.in_default-step.ensures.none

pub loop-walked-preserved : goal.loop-walked-preserved
loop-walked-preserved g c =
    let less : c.loop-walked.walked < c.steps_between-steps.result = omega (arith, c.loop-walked-test.true) in
    let step = c.in-Some-step.ensures.some in (
      leg_goes (g.V.View.passes c.args.view.now c.args.class) c.in-Some.dir c.steps_between-steps.result c.args.from c.args.to c.loop-walked.walked c.loop-walked.at
          c.in-Some-step.next less c.loop-walked.invariant.0 step,
      g.met.V.View.within c.args.view.now c.args.class c.in-Some-step.next step.next,
    )

pub returns-then-is_cell-clause-some : goal.returns-then-is_cell-clause-some
returns-then-is_cell-clause-some g c =
    let passes = g.V.View.passes c.args.view.now c.args.class in
    let steps = c.steps_between-steps.result in
    let long = c.steps_between-steps.ensures in
    let all : c.loop-walked.walked ≡ steps = omega (arith, c.loop-walked-test.false, c.loop-walked.auto.walked-end) in
    leg_arrives passes c.in-Some.dir steps c.args.from c.args.to c.loop-walked.at c.in-Some.ensures.some
    (record { columns = long.columns; rows = long.rows; one = long.one })
    (subst (λ (n : ℕ). IsOnLeg passes c.in-Some.dir steps c.args.from c.args.to n c.loop-walked.at) all c.loop-walked.invariant.0)
    (c.is_cell.ensures.0 c.if-is_cell.true)

pub returns-then-is_cell-clause-only : goal.returns-then-is_cell-clause-only
returns-then-is_cell-clause-only g c = λ other leg.
    leg_heading (g.V.View.passes c.args.view.now c.args.class) c.in-Some.dir other c.args.from c.args.to c.in-Some.ensures.some leg

pub returns-then-is_cell-clause-inside : goal.returns-then-is_cell-clause-inside
returns-then-is_cell-clause-inside g c =
    subst (λ (cell : Cell). IsInside (g.V.View.extent c.args.view.now) cell) (c.is_cell.ensures.0 c.if-is_cell.true) c.loop-walked.invariant.1

pub returns-else-is_cell-clause-none : goal.returns-else-is_cell-clause-none
returns-else-is_cell-clause-none g c =
    let passes = g.V.View.passes c.args.view.now c.args.class in
    let steps = c.steps_between-steps.result in
    let all : c.loop-walked.walked ≡ steps = omega (arith, c.loop-walked-test.false, c.loop-walked.auto.walked-end) in
    leg_misses passes c.in-Some.dir steps c.args.from c.args.to c.loop-walked.at
    (subst (λ (n : ℕ). IsOnLeg passes c.in-Some.dir steps c.args.from c.args.to n c.loop-walked.at) all c.loop-walked.invariant.0)
    (λ same. both_ways c.is_cell.result c.if-is_cell.false (c.is_cell.ensures.1 same))
