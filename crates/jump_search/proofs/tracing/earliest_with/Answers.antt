use Rattle.jump_search.proofs.tracing.earliest_with.Goals as goal

pub returns-in_default-clause-here : goal.returns-in_default-clause-here
returns-in_default-clause-here c = λ dir is. absurd (c.in_default.ensures.none dir is)
