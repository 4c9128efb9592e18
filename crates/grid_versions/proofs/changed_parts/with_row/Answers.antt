use Rattle.std.proofs.Common.{Option, subst}
use Rattle.std.specs.Prelude.{IfSome}
use Rattle.nav_types.specs.declared.cells.Rect.{Rect}
use Rattle.nav_types.specs.Rects.{IsPartOf}
use Rattle.grid_versions.proofs.changed_parts.with_row.Goals as goal

pub returns-then-is_same_row-clause-row : goal.returns-then-is_same_row-clause-row
returns-then-is_same_row-clause-row c = λ cell inside here apart.
    absurd (apart (c.is_same_row.ensures c.if-is_same_row.true cell inside here))

pub returns-in-Some-clause-part : goal.returns-in-Some-clause-part
returns-in-Some-clause-part c =
    let whole : Rect = c.args.before.now.rect in
    c.union.ensures.least whole (subst (λ (o : Option Rect). IfSome o (IsPartOf whole)) c.in-Some.is c.requires.held)
    c.differing_cells-cells.ensures.part
