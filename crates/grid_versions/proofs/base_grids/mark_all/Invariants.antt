use Rattle.std.proofs.Common.{◌≡◌, ◌*◌, ◌<◌, ◌≤◌, ℕ, get_or}
use Rattle.nav_types.specs.declared.cells.Cell.{Cell}
use Rattle.nav_types.specs.declared.cells.Rect.{Rect}
use Rattle.nav_types.specs.Cells.{IsInside}
use Rattle.nav_types.specs.Numbering.{rows}
use Rattle.grid_versions.specs.inner.Marking.{IsMarked, IsRectMarked, AreMarksWithin}
use Rattle.grid_versions.proofs.base_grids.mark_all.Given as goal

-- the rectangles before `entry-index` are marked
abbrev pub invariant-loop-entry : goal.invariant-loop-entry
invariant-loop-entry l = record {
  extent : l.grid.size ≡ l.fn.grid.size;
  within : AreMarksWithin l.base l.run l.grid;
  kept : (k : ℕ) (cell : Cell) → IsInside l.fn.grid.size cell → IsMarked l.fn.grid l.run k cell → IsMarked l.grid l.run k cell;
  marked : (p : ℕ) → p < l.entry-index → (entry : Rect × ℕ)
      → entry ≡ get_or l.base p (record { i0 = 0; j0 = 0; i1 = 0; j1 = 0 }, 0)
      → l.run ≤ rows entry.0 → rows entry.0 ≤ 2 * l.run → IsRectMarked l.grid l.run entry.0 entry.1;
}
