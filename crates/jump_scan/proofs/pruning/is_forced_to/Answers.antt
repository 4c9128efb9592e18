use Rattle.std.proofs.Common.{sym, subst}
use Rattle.nav_types.specs.declared.directions.Dir.{Dir}
use Rattle.nav_types.specs.Beside.{IsFreeBeside}
use Rattle.jump_scan.proofs.pruning.is_forced_to.Goals as goal

pub returns-then-is_forcing : goal.returns-then-is_forcing
returns-then-is_forcing g c =
    let F = λ (way : Dir). IsFreeBeside (g.V.View.passes c.args.view.now c.args.class) c.args.cell way in (
      (λ answer. (c.is_forcing.ensures.0 c.if-is_forcing.true, subst F c.aside_to.ensures (c.is_free_beside.ensures.0 answer))),
      (λ both. c.is_free_beside.ensures.1 (subst F (sym c.aside_to.ensures) both.1)),
    )
