use Rattle.std.proofs.Common.{◌≡◌, ◌≤◌, ◌∙◌, ap, sym, subst}
use Rattle.std.specs.Prelude.{bit_or}
use Rattle.nav_types.specs.Numbering.{Numbering}
use Rattle.nav_types.specs.declared.cells.Rect.{Rect}
use Rattle.nav_types.specs.Cells.{cell_at, IsInRect}
use Rattle.navcell_grid.proofs.PatchLemmas.{framed, local_of, number_local, number_old, local-inside, framed-again, span-local, span-back}
use Rattle.navcell_grid.proofs.patches.Patch.or_span.Goals as goal

pub invariant_of-self : goal.invariant_of-self
invariant_of-self c = framed-again c.self.inside.rect c.self.inside.grid c.or_span.new.self c.self.invariant c.or_span.ensures.size

pub returns-clause-span : goal.returns-clause-span
returns-clause-span c =
    let rect = c.self.inside.rect in let old = c.self.inside.grid in let new = c.or_span.new.self in
    let frame = framed-again rect old new c.self.invariant c.or_span.ensures.size in
    let same : framed rect old ≡ c.args.self.now = c.self.view_is in
    let first : rect.i0 ≤ c.args.i0 = subst (λ (p : Numbering). p.rect.i0 ≤ c.args.i0) (sym same) c.requires.first.west in
    λ cell at. number_local rect new cell frame.wide
    ∙ c.or_span.ensures.span (local_of rect cell) (span-local rect c.args.j c.args.i0 c.args.i1 cell first at)
    ∙ ap (λ n. bit_or n c.args.mask) (number_old rect old c.args.self.now cell c.self.invariant.wide same)

pub returns-clause-others : goal.returns-clause-others
returns-clause-others c =
    let rect = c.self.inside.rect in let old = c.self.inside.grid in let new = c.or_span.new.self in
    let frame = framed-again rect old new c.self.invariant c.or_span.ensures.size in
    let same : framed rect old ≡ c.args.self.now = c.self.view_is in
    let same_rect : rect ≡ c.args.self.now.rect = ap (λ (p : Numbering). p.rect) same in
    let first : IsInRect rect (cell_at c.args.i0 c.args.j) = subst (λ (r : Rect). IsInRect r (cell_at c.args.i0 c.args.j)) (sym same_rect) c.requires.first in
    let last : IsInRect rect (cell_at c.args.i1 c.args.j) = subst (λ (r : Rect). IsInRect r (cell_at c.args.i1 c.args.j)) (sym same_rect) c.requires.last in
    λ cell inside out.
    let in_rect : IsInRect rect cell = subst (λ (r : Rect). IsInRect r cell) (sym same_rect) inside in
    number_local rect new cell frame.wide
    ∙ c.or_span.ensures.others (local_of rect cell) (local-inside rect old cell c.self.invariant in_rect)
    (λ at. out (span-back rect c.args.j c.args.i0 c.args.i1 cell first.south first.west last.west in_rect at))
    ∙ number_old rect old c.args.self.now cell c.self.invariant.wide same
