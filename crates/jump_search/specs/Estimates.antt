-- What a search takes a cell to be away from the cells that it looks for.
use Rattle.std.specs.Prelude.{ℕ, zero, suc, Bool, ◌≡◌, ◌+◌, ◌-◌, ◌*◌, ◌/◌, ◌≤◌, IsTrue, max, min, nat_le, if◌then◌else◌, ℤ, unsigned_abs}
use Rattle.nav_types.specs.declared.limits.TheConstants.{STRAIGHT_COST}
use Rattle.nav_types.specs.declared.cells.Cell.{Cell}
use Rattle.nav_types.specs.declared.cells.Rect.{Rect}
use Rattle.nav_types.specs.declared.cells.Size.{Size}
use Rattle.nav_types.specs.declared.directions.Dir.{Dir}
use Rattle.nav_types.specs.Directions.{step_cost}
use Rattle.nav_types.specs.Frames.{IsFrame}
use Rattle.nav_types.specs.Walks.{Step}
use Rattle.fixed_point.specs.declared.plane.Rectangle.{Rectangle}
use Rattle.fixed_point.specs.Plane.{square, from_centre, centre_along, centre_across}
use Rattle.landmarks.specs.Spans.{span_bound}
use Rattle.jump_search.specs.declared.estimates.TargetEstimate.{TargetEstimate}
use Rattle.jump_search.specs.declared.estimates.TargetEstimate.TheVariants.{Octile, Leaving, Costly}
use Rattle.jump_search.specs.declared.estimates.CostlyEstimate.{CostlyEstimate}
use Rattle.jump_search.specs.declared.estimates.CostlyEstimate.TheVariants.{Past, OutOfDisc, OutOfTurned}
use Rattle.jump_search.specs.declared.estimates.Marked.{Marked}
use Rattle.jump_search.specs.declared.rooms.Disc.{Disc}
use Rattle.jump_search.specs.declared.rooms.TurnedRoom.{TurnedRoom}
use Rattle.jump_search.specs.JumpStates.{octile_to}

-- The estimate is consistent: 0 at a passable cell that is hit, and along a legal step it falls by no more than the step
-- costs. So it is also admissible: no walk to a hit cell costs less.
pub record IsConsistent (passes hit : Cell → Bool) (ahead : Cell → ℕ) : Type 0 where
  pub none : (cell : Cell) → IsTrue (passes cell) → IsTrue (hit cell) → ahead cell ≡ 0
  pub falls : (dir : Dir) (from to : Cell) → Step passes dir from to → ahead from ≤ step_cost dir + ahead to

-- An estimate by which a search may go: a consistent one that is nowhere below the octile distance to the rectangle of the
-- aim.
pub record IsEstimate (passes hit framed : Cell → Bool) (size : Size) (ahead : Cell → ℕ) : Type 0 where
  pub consistent : IsConsistent passes hit ahead
  pub octile : (rect : Rect) → IsFrame framed size rect → (cell : Cell) → IsTrue (passes cell)
      → octile_to rect cell ≤ ahead cell

-- how few steps lead from the cell out of the rectangle; 0 outside
abbrev pub steps_out : Rect → Cell → ℕ
steps_out rect cell =
    min (min (cell.i + 1 - rect.i0) (rect.i1 + 1 - cell.i)) (min (cell.j + 1 - rect.j0) (rect.j1 + 1 - cell.j))

-- what they cost at least
abbrev pub cost_out : Rect → Cell → ℕ
cost_out rect cell = STRAIGHT_COST * steps_out rect cell

-- the octile distance to the rectangle, or the bound that tables of landmarks give, whichever is greater
abbrev pub cost_past : Marked → Cell → ℕ
cost_past marked cell = max (octile_to marked.rect cell) (span_bound marked.tables.now marked.span cell)

-- the greatest number whose square is no more
unfoldable pub root : ℕ → ℕ
root zero = 0
root (suc n) = if nat_le (square (suc (root n))) (suc n) then suc (root n) else root n

-- from a coordinate to the farther edge of column (or row) i, as a raw number
abbrev pub farther_edge : ℕ → ℤ → ℕ
farther_edge i x = unsigned_abs (from_centre i x) + 32768

-- what the way out of a disc costs at least: a straight step costs the raw number of a navcell's side, so it is the radius
-- less how far the cell's farthest corner lies from the middle, rounded up
abbrev pub cost_to_rim : Disc → Cell → ℕ
cost_to_rim disc cell =
    unsigned_abs disc.r - root (square (farther_edge cell.i disc.x) + square (farther_edge cell.j disc.z))

-- how far from a rectangle's middle the farthest corner of a cell lies, where the cell's middle lies so far along or across
-- it, times 65536
abbrev pub farther_corner : Rectangle → ℤ → ℕ
farther_corner rectangle length = unsigned_abs length + 32768 * (unsigned_abs rectangle.ux + unsigned_abs rectangle.uz)

-- how deep all of the cell lies within a rectangle's sides, times 65536, and 0 where a corner of it does not
abbrev pub depth_within : Rectangle → Cell → ℕ
depth_within rectangle cell =
    min (65536 * unsigned_abs rectangle.hw - farther_corner rectangle (centre_along rectangle cell.i cell.j))
    (65536 * unsigned_abs rectangle.hh - farther_corner rectangle (centre_across rectangle cell.i cell.j))

-- what the way out of a turned room costs at least
abbrev pub cost_to_side : TurnedRoom → Cell → ℕ
cost_to_side room cell = depth_within room.rectangle cell / room.gain

-- what tables tell, or the way out of a disc or of a turned room
abbrev pub least_costly : CostlyEstimate → Cell → ℕ
least_costly (Past marked) = cost_past marked
least_costly (OutOfDisc disc) = cost_to_rim disc
least_costly (OutOfTurned room) = cost_to_side room

-- what is ahead of a cell: the octile distance to a rectangle, the way out of one, or what else is known
abbrev pub least_ahead : TargetEstimate → Cell → ℕ
least_ahead (Octile rect) = octile_to rect
least_ahead (Leaving rect) = cost_out rect
least_ahead (Costly estimate) = least_costly estimate
