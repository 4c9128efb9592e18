use Rattle.std.proofs.Common.{sym, ap, subst, ◌∙◌}
use Rattle.nav_types.specs.declared.directions.Dir.{Dir}
use Rattle.nav_types.specs.Beside.{IsFreeBeside}
use Rattle.jump_scan.specs.Turns.{ahead_to}
use Rattle.jump_scan.proofs.Turning.{blocked_from_back, back_from_blocked, not_true, true_not}
use Rattle.jump_scan.proofs.pruning.is_forcing.Goals as goal

pub returns-then-is_straight : goal.returns-then-is_straight
returns-then-is_straight g c =
    let passes = g.V.View.passes c.args.view.now c.args.class in
    let straight = sym c.is_straight.ensures ∙ c.if-is_straight.true in
    let asked = c.ahead_to.ensures ∙ ap (ahead_to c.args.side) c.aside_to.ensures in
    let F = λ (way : Dir). IsFreeBeside passes c.args.cell way in (
      (λ answer. (
        straight,
        blocked_from_back passes c.args.cell c.args.arrived c.args.side straight
            (λ free. not_true c.is_free_beside.result answer (c.is_free_beside.ensures.1 (subst F (sym asked) free))),
      )),
      (λ forcing. true_not c.is_free_beside.result (λ answer.
          back_from_blocked passes c.args.cell c.args.arrived c.args.side straight forcing.1 (subst F asked (c.is_free_beside.ensures.0 answer)))),
    )
