-- Runs, blocks and rings of cells.
use Rattle.std.specs.Prelude.{ℕ, ◌≡◌, ◌+◌, ◌-◌, ◌<◌, ◌≤◌, min}
use Rattle.nav_types.specs.declared.cells.Cell.{Cell}
use Rattle.nav_types.specs.declared.cells.Rect.{Rect}
use Rattle.nav_types.specs.declared.cells.Size.{Size}
use Rattle.nav_types.specs.declared.straights.Axis.{Axis}
use Rattle.nav_types.specs.Cells.{IsInside, IsInRect}
use Rattle.nav_types.specs.Lines.{place_on, line_on}
use Rattle.goal_reach.specs.declared.rings.RingBlock.{RingBlock}

-- the rectangle with so many columns and rows more on each side
abbrev pub widened : ℕ → Rect → Rect
widened rings rect = record { i0 = rect.i0 - rings; j0 = rect.j0 - rings; i1 = rect.i1 + rings; j1 = rect.j1 + rings }

-- the part of the rectangle that lies in a map of this size
abbrev pub clipped : Size → Rect → Rect
clipped size rect = record { i0 = rect.i0; j0 = rect.j0; i1 = min rect.i1 (size.w - 1); j1 = min rect.j1 (size.h - 1) }

-- the first rectangle holds the second
pub record Encloses (outer inner : Rect) : Type 0 where
  pub west : outer.i0 ≤ inner.i0
  pub east : inner.i1 ≤ outer.i1
  pub south : outer.j0 ≤ inner.j0
  pub north : inner.j1 ≤ outer.j1

-- the cell lies in the outer rectangle and not in the inner one
abbrev pub IsOnRing : Rect → Rect → Cell → Type 0
IsOnRing inner outer cell = IsInRect outer cell × (IsInRect inner cell → ⊥)

-- the cell lies on the line, at a place from `from` up to `end`, without that one
pub record IsInRun (axis : Axis) (line from end : ℕ) (cell : Cell) : Type 0 where
  pub on_line : line_on axis cell ≡ line
  pub first : from ≤ place_on axis cell
  pub past : place_on axis cell < end

-- the cell lies in the block
pub record IsInBlock (block : RingBlock) (cell : Cell) : Type 0 where
  pub first_line : block.first_line ≤ line_on block.axis cell
  pub past_line : line_on block.axis cell < block.past_line
  pub from : block.from ≤ place_on block.axis cell
  pub end : place_on block.axis cell < block.end

-- the block lies in a map of this size
pub record IsBlockInside (size : Size) (block : RingBlock) : Type 0 where
  pub lines : block.first_line ≤ block.past_line
  pub places : block.from ≤ block.end
  pub cells : (cell : Cell) → IsInBlock block cell → IsInside size cell
