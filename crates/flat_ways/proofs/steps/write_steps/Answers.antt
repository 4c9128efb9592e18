use Rattle.std.proofs.Common.{ℕ, ◌≡◌, ◌<◌, ◌*◌, length, ap, subst, ◌∙◌, arith}
use Rattle.std.specs.Prelude.{min}
use Rattle.std.proofs.Math.Nat.{min-le_left}
use Rattle.nav_types.specs.declared.cells.Cell.{Cell}
use Rattle.flat_ways.specs.Steps.{HasStep}
use Rattle.flat_ways.proofs.Telling.{told_more, told_all}
use Rattle.flat_ways.proofs.steps.write_steps.Goals as goal

pub loop-place-preserved : goal.loop-place-preserved
loop-place-preserved c = λ passes hit start is.
    let before = c.args.steps.now in
    let told = c.loop-place.invariant passes hit start is in
    let within : c.loop-place.place < length c.loop-place.steps =
    omega (arith, c.loop-place-test.true, told.long, c.min-count.ensures, min-le_left (length before) c.cell_count.result) in
    told_more (HasStep passes hit start) c.args.size c.loop-place.place c.step_number.result before c.loop-place.steps within told
    (subst (λ (cell : Cell). HasStep passes hit start cell c.step_number.result) c.cell_at.ensures.value (c.step_number.ensures passes hit start is))

pub returns : goal.returns
returns c = λ passes hit start is.
    let before = c.args.steps.now in
    let all : c.loop-place.place ≡ c.min-count.result = omega (arith, c.loop-place-test.false, c.loop-place.auto.place-end) in
    let count : c.loop-place.place ≡ min (length before) (c.args.size.w * c.args.size.h) =
    all ∙ c.min-count.ensures ∙ ap (λ (n : ℕ). min (length before) n) c.cell_count.ensures in
    told_all (HasStep passes hit start) c.args.size c.loop-place.place before c.loop-place.steps count (c.loop-place.invariant passes hit start is)
