use Rattle.std.proofs.Common.{take, IsTrue, IsSomeAnd}
use Rattle.std.specs.Prelude.{IfSome}
use Rattle.nav_types.specs.declared.cells.Cell.{Cell}
use Rattle.nav_types.specs.declared.cells.Rect.{Rect}
use Rattle.nav_types.specs.Cells.{IsInRect}
use Rattle.nav_types.specs.Rects.{IsPartOf}
use Rattle.grid_versions.specs.inner.Reaching.{is_in_some}
use Rattle.grid_versions.proofs.dirty_parts.dirty_part.Given as goal

-- the cells in the reaches before `reach-index` are held
abbrev pub invariant-loop-reach : goal.invariant-loop-reach
invariant-loop-reach l = record {
  part : IfSome l.part (IsPartOf l.rect);
  held : (cell : Cell) → IsInRect l.rect cell → IsTrue (is_in_some (take l.reach-index l.reaches) cell)
      → IsSomeAnd l.part (λ (rect : Rect). IsInRect rect cell);
}
