use Rattle.std.proofs.Common.{Option, None, Some, IsSomeAnd, ◌↔◌, subst}
use Rattle.std.specs.Prelude.{IfSome, IfNone}
use Rattle.nav_types.specs.declared.cells.Cell.{Cell}
use Rattle.nav_types.specs.declared.cells.Rect.{Rect}
use Rattle.nav_types.specs.Cells.{IsInRect}
use Rattle.nav_types.specs.Rects.{IsPartOf}
use Rattle.grid_versions.proofs.dirty_parts.widened.Goals as goal

-- what both rectangles hold is found
found_in : (found : Option Rect) (a b : Rect)
    → IfSome found (λ rect. (cell : Cell) → (IsInRect rect cell ↔ (IsInRect a cell × IsInRect b cell)))
    → IfNone found ((cell : Cell) → IsInRect a cell → ¬ IsInRect b cell)
    → (cell : Cell) → IsInRect b cell → IsInRect a cell → IsSomeAnd found (λ (rect : Rect). IsInRect rect cell)
found_in None a b cells none cell in_b in_a = absurd (none cell in_a in_b)
found_in (Some rect) a b cells none cell in_b in_a = (cells cell).1 (in_a, in_b)

pub returns-in-Some-Some-clause-part : goal.returns-in-Some-Some-clause-part
returns-in-Some-Some-clause-part c =
    let first = subst (λ (o : Option Rect). IfSome o (IsPartOf c.args.rect)) c.in-Some-Some.is-0 c.requires in
    c.union.ensures.least c.args.rect first c.in-Some-Some.ensures.part

pub returns-in-Some-Some-clause-second : goal.returns-in-Some-Some-clause-second
returns-in-Some-Some-clause-second c = λ cell inside reached.
    c.union.ensures.second cell ((c.in-Some-Some.ensures.cells cell).1 (reached, inside))

pub returns-in-None-default-clause-second : goal.returns-in-None-default-clause-second
returns-in-None-default-clause-second c =
    found_in c.intersection.result c.args.reach c.args.rect c.intersection.ensures.cells c.intersection.ensures.none
