use Rattle.std.proofs.Common.{ℕ, ◌-◌, List, get_or, ap, sym, subst, ◌∙◌}
use Rattle.nav_types.specs.declared.cells.Rect.{Rect}
use Rattle.nav_types.specs.Rects.{IsPartOf}
use Rattle.grid_versions.proofs.changed_parts.is_same_row.Goals as goal

pub numbers_in-requires-2-clause-part : goal.numbers_in-requires-2-clause-part
numbers_in-requires-2-clause-part c = subst (λ (r : Rect). IsPartOf r c.args.part) (sym c.requires.rect) c.requires.part

pub returns : goal.returns
returns c holds cell inside here =
    sym (c.numbers_in.ensures cell inside here)
    ∙ ap (λ (xs : List ℕ). get_or xs (cell.i - c.args.part.i0) 0) (c.are_same.ensures holds)
    ∙ c.numbers_in-2.ensures cell inside here
