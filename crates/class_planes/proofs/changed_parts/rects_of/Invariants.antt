use Rattle.std.specs.Prelude.{All}
use Rattle.std.proofs.Common.{take}
use Rattle.nav_types.specs.declared.cells.Cell.{Cell}
use Rattle.nav_types.specs.declared.cells.Size.{Size}
use Rattle.nav_types.specs.Cells.{IsRectInside}
use Rattle.class_planes.specs.Planes.{IsOutside, IsKept}
use Rattle.class_planes.proofs.changed_parts.rects_of.Given as goal

abbrev pub invariant-loop-part : goal.invariant-loop-part
invariant-loop-part l = record {
  kept : (cell : Cell) → IsOutside l.rects.items cell → IsKept (take l.part-index l.parts) l.class cell;
  inside : (size : Size) → All (λ part. IsRectInside size part.rect) l.parts
      → All (IsRectInside size) l.rects.items;
}
