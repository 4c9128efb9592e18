-- A plane: the size of a map, and the set of its cells that are passable for one class.
-- Its bits hold a row or a column as words of 64 cells each, in which a set bit is a passable cell.
use Rattle.std.specs.Prelude.{ℕ, Bool, false, ◌≡◌, ◌==◌, ◌<◌, ◌≤◌, All, Option, Some, None, is_some, IsTrue, IsFalse, length, ◌/◌, ◌%◌, ◌&&◌, nat_lt, List, slice_index, slice_index_or}
use Rattle.std.specs.Int.{bit_at}
use Rattle.nav_types.specs.declared.cells.Cell.{Cell}
use Rattle.nav_types.specs.declared.cells.Rect.{Rect}
use Rattle.nav_types.specs.declared.cells.Size.{Size}
use Rattle.nav_types.specs.Cells.{IsInRect}
use Rattle.nav_types.specs.Places.{place_of}
use Rattle.lane_rows.specs.Rows.{has_class, one_if}
use Rattle.class_planes.specs.declared.changed_parts.ChangedPart.{ChangedPart}

-- the size in navcells, and for each cell whether it is passable, in the order of cells: by row, then by column
pub record PlaneCells : Type 0 where
  pub size : Size
  pub cells : List Bool

-- whether the cell lies in the map and is passable
abbrev pub is_passable : PlaneCells → Cell → Bool
is_passable plane cell = nat_lt cell.i plane.size.w && nat_lt cell.j plane.size.h
    && slice_index_or plane.cells (place_of plane.size cell) false

-- bit i % 64 of word i / 64 is set exactly where the place i of the line is passable; past the last word no place is
abbrev pub AreFreeBits : (ℕ → Bool) → List ℕ → Type 0
AreFreeBits free words = (i : ℕ) → bit_at (slice_index words (i / 64)) (i % 64) ≡ one_if (free i)

-- the plane of a map of this size with exactly these passable cells
pub record IsPlaneOf (size : Size) (passes : Cell → Bool) (plane : PlaneCells) : Type 0 where
  pub extent : plane.size ≡ size
  pub cells : is_passable plane ≡ passes

-- the plane, where it is wanted, and none elsewhere
abbrev pub IsPlaneIn : Size → (Cell → Bool) → Bool → Option PlaneCells → Type 0
IsPlaneIn size passes wanted (Some plane) = IsTrue wanted × IsPlaneOf size passes plane
IsPlaneIn size passes wanted None = IsFalse wanted

-- the planes of the first so many classes whose bits are set in the mask
pub record ArePlanes (size : Size) (passes : ℕ → Cell → Bool) (mask count : ℕ)
    (planes : List (Option PlaneCells)) : Type 0 where
  pub many : length planes ≡ count
  pub each : (class : ℕ) → class < count
      → IsPlaneIn size (passes class) (bit_at mask class == 1) (slice_index_or planes class None)

-- each plane is that of its class in a map of this size with these passable cells
abbrev pub AreOf : Size → (ℕ → Cell → Bool) → List (Option PlaneCells) → Type 0
AreOf size passes planes = (class : ℕ) (plane : PlaneCells) → slice_index_or planes class None ≡ Some plane
    → IsPlaneOf size (passes class) plane

-- none of the rectangles holds the cell
abbrev pub IsOutside : List Rect → Cell → Type 0
IsOutside rects cell = All (λ rect. IsInRect rect cell → ⊥) rects

-- no part that has changed for the class holds the cell
abbrev pub IsKept : List ChangedPart → ℕ → Cell → Type 0
IsKept parts class cell = All (λ part. IsTrue (has_class class part.classes) → IsInRect part.rect cell → ⊥) parts

-- the planes of a map of this size before it changed: its classes, of which there were so many at most, have now these
-- passable cells, and each cell that no changed part of the class holds is as it was
pub record AreOfBefore (size : Size) (classes : ℕ) (passes : ℕ → Cell → Bool) (parts : List ChangedPart)
    (planes : List (Option PlaneCells)) : Type 0 where
  pub earlier : ℕ → Cell → Bool
  pub few : length planes ≤ classes
  pub are : AreOf size earlier planes
  pub same : (class : ℕ) (cell : Cell) → IsKept parts class cell → earlier class cell ≡ passes class cell

-- planes of a map of this size with these passable cells, of exactly the classes of which others are
pub record AreOfSame (size : Size) (passes : ℕ → Cell → Bool) (others planes : List (Option PlaneCells)) : Type 0 where
  pub many : length planes ≡ length others
  pub each : (class : ℕ) → class < length others
      → IsPlaneIn size (passes class) (is_some (slice_index_or others class None)) (slice_index_or planes class None)
