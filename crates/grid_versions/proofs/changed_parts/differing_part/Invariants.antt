use Rattle.std.proofs.Common.{◌≢◌, ◌<◌, IsSomeAnd}
use Rattle.std.specs.Prelude.{IfSome}
use Rattle.nav_types.specs.declared.cells.Cell.{Cell}
use Rattle.nav_types.specs.declared.cells.Rect.{Rect}
use Rattle.nav_types.specs.Cells.{IsInRect}
use Rattle.nav_types.specs.Numbering.{number_of}
use Rattle.nav_types.specs.Rects.{IsPartOf}
use Rattle.grid_versions.proofs.changed_parts.differing_part.Given as goal

-- the cells of the part below row j are held where their numbers differ
abbrev pub invariant-loop-j : goal.invariant-loop-j
invariant-loop-j l = record {
  part : IfSome l.found (IsPartOf l.before.rect);
  held : (cell : Cell) → IsInRect l.part cell → cell.j < l.j
      → number_of l.before cell ≢ number_of l.after cell → IsSomeAnd l.found (λ (rect : Rect). IsInRect rect cell);
}
