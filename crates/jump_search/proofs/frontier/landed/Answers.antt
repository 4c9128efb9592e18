use Rattle.std.proofs.Common.{ℕ, ◌≡◌, ◌+◌, ◌*◌, sym, ap, ap₂, ◌∙◌}
use Rattle.jump_search.proofs.Landing.{steps_moved}
use Rattle.jump_search.proofs.Measuring.{octile_moves}
use Rattle.jump_search.proofs.frontier.landed.Goals as goal

pub returns-clause-cost : goal.returns-clause-cost
returns-clause-cost c =
    let from = c.args.node.now.state.cell in
    let moves = c.requires.moves in
    let steps : c.steps_along-run.result ≡ moves.0 =
    c.steps_along-run.ensures ∙ sym (steps_moved c.args.dir moves.0 from c.args.stop moves.1) in
    ap (λ (far : ℕ). c.args.node.now.cost + far)
    (ap₂ (λ (m n : ℕ). m * n) steps c.cost.ensures.value
    ∙ sym (octile_moves c.args.dir moves.0 from c.args.stop moves.1))
