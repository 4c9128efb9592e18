use Rattle.std.proofs.Common.{ℕ, ◌⊎◌, get_or}
use Rattle.std.specs.Prelude.{All, IsTrue, IsFalse}
use Rattle.nav_types.specs.declared.cells.Cell.{Cell}
use Rattle.nav_types.specs.Cells.{IsInside, IsRectInside, chunk_of}
use Rattle.lane_rows.specs.Rows.{has_class}
use Rattle.class_planes.specs.Planes.{IsKept}
use Rattle.grid_versions.specs.Chunks.{chunk_place}
use Rattle.grid_versions.specs.inner.SameNumbers.{IsSameAt}
use Rattle.grid_versions.specs.inner.Reaching.{is_in_some}
use Rattle.grid_versions.proofs.DirtyLemmas.{IsLeft}
use Rattle.grid_versions.proofs.changed_parts.changed_parts.Given as goal

-- the parts before `part-index` are done
abbrev pub invariant-loop-part : goal.invariant-loop-part
invariant-loop-part l = record {
  inside : All (λ part. IsRectInside l.fn.size part.rect) l.found.items;
  held : (class : ℕ) (cell : Cell) → IsKept l.found.items class cell → IsInside l.fn.size cell
      → IsTrue (is_in_some l.dirty.rects cell)
      → (IsFalse (has_class class (get_or l.changed (chunk_place l.fn.size (chunk_of cell)) 0))
      ⊎ IsSameAt l.before l.after (chunk_place l.fn.size (chunk_of cell)) cell)
      ⊎ IsLeft l.parts l.part-index (chunk_place l.fn.size (chunk_of cell));
}
