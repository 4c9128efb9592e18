use Rattle.std.proofs.Common.{ℕ, ◌≡◌, Option, Some, IsSomeAnd, inl, inr, subst, arith}
use Rattle.std.specs.Prelude.{IfSome}
use Rattle.std.proofs.lemmas.Bool.{cases_lt}
use Rattle.nav_types.specs.declared.cells.Rect.{Rect}
use Rattle.nav_types.specs.Cells.{IsInRect}
use Rattle.nav_types.specs.Rects.{IsPartOf}
use Rattle.grid_versions.proofs.changed_parts.differing_part.Goals as goal

-- the dirty part lies in the chunk
within_here : (dirty : Option Rect) (chunk part : Rect) → IfSome dirty (IsPartOf chunk) → dirty ≡ Some part → IsPartOf chunk part
within_here dirty chunk part inside is = subst (λ (o : Option Rect). IfSome o (IsPartOf chunk)) is inside

pub returns-in_default-clause-held : goal.returns-in_default-clause-held
returns-in_default-clause-held c = λ cell reached apart.
    absurd (subst (λ (o : Option Rect). IsSomeAnd o (λ (r : Rect). IsInRect r cell)) c.in_default.is reached)

pub overflow_add-j-end : goal.overflow_add-j-end
overflow_add-j-end c =
    let within = within_here c.args.dirty c.args.before.now.rect c.in-Some.part c.requires.dirty c.in-Some.is in
    let last = within.last.north in let north = c.rect.ensures.whole.extent.north in
    omega arith

pub loop-j-init : goal.loop-j-init
loop-j-init c = record {
  part = tt;
  held = λ cell inside below apart. absurd (omega (arith, inside.south, below));
}

pub with_row-found-requires-clause-patch : goal.with_row-found-requires-clause-patch
with_row-found-requires-clause-patch c = c.rect.ensures.whole.extent

pub with_row-found-requires-clause-part : goal.with_row-found-requires-clause-part
with_row-found-requires-clause-part c =
    within_here c.args.dirty c.args.before.now.rect c.in-Some.part c.requires.dirty c.in-Some.is

pub loop-j-preserved : goal.loop-j-preserved
loop-j-preserved c =
    let j : ℕ = c.loop-j.j in
    record {
      part = c.with_row-found.ensures.part;
      held = λ cell inside below apart. elim (cases_lt cell.j j) [
        | inl earlier ↦
            c.with_row-found.ensures.first cell (c.loop-j.invariant.held cell inside earlier apart)
        | inr newest ↦
            let here : cell.j ≡ j = omega arith in
            c.with_row-found.ensures.row cell inside here apart
      ];
    }

pub returns-clause-held : goal.returns-clause-held
returns-clause-held c = λ cell reached apart.
    let found = subst (λ (o : Option Rect). IsSomeAnd o (λ (r : Rect). IsInRect r cell)) c.in-Some.is reached in
    let north = found.north in
    c.loop-j.invariant.held cell found (omega (arith, north, c.loop-j-test.false)) apart
