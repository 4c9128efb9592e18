use Rattle.std.proofs.Common.{List, sym, subst, ◌∙◌}
use Rattle.nav_types.specs.declared.cells.Cell.{Cell}
use Rattle.jump_search.specs.inner.Traced.{HasWaypoints}
use Rattle.jump_search.proofs.tracing.traced.Goals as goal

pub returns : goal.returns
returns c = λ all passes hit ahead able.
    subst (λ (points : List Cell). HasWaypoints passes c.args.start c.args.best.cell points)
    (sym (c.from.ensures ∙ c.reverse.ensures.items)) (c.in_ok-corners.ensures all passes hit ahead able)
