use Rattle.std.proofs.Common.{ap}
use Rattle.jump_search.specs.declared.states.JumpState.{JumpState}
use Rattle.jump_search.proofs.tracing.exact_run.Goals as goal

pub returns-then-not-is_exact-clause-none : goal.returns-then-not-is_exact-clause-none
returns-then-not-is_exact-clause-none c = λ dir is.
    c.is_exact.ensures.not c.if-not-is_exact.true (ap (λ (s : JumpState). s.cell) is.state) is.costs
