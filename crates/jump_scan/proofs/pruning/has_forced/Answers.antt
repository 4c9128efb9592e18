use Rattle.std.proofs.Common.{inl, inr}
use Rattle.std.proofs.lemmas.Bool.{both_ways}
use Rattle.nav_types.specs.Beside.{IsFreeBeside}
use Rattle.jump_scan.specs.declared.turns.Side.{Side}
use Rattle.jump_scan.specs.declared.turns.Side.TheVariants.{Right}
use Rattle.jump_scan.specs.Turns.{aside_to}
use Rattle.jump_scan.specs.Successors.{IsForcing}
use Rattle.jump_scan.proofs.Turning.{HasForced-from_side, side_from_HasForced, either_side}
use Rattle.jump_scan.proofs.pruning.has_forced.Goals as goal

pub returns-else-is_forced_to : goal.returns-else-is_forced_to
returns-else-is_forced_to g c =
    let passes = g.V.View.passes c.args.view.now c.args.class in
    let cell = c.args.cell in
    let arrived = c.args.arrived in
    let Of = λ (side : Side). IsForcing passes cell arrived side × IsFreeBeside passes cell (aside_to side arrived) in (
      (λ answer. HasForced-from_side passes cell arrived Right c.requires.passable (c.is_forced_to-else-is_forced_to.ensures.0 answer)),
      (λ forced. elim (either_side Of (side_from_HasForced passes cell arrived forced)) [
        | inl left ↦ absurd (both_ways c.is_forced_to.result c.if-is_forced_to.false (c.is_forced_to.ensures.1 left))
        | inr right ↦ c.is_forced_to-else-is_forced_to.ensures.1 right
      ]),
    )
