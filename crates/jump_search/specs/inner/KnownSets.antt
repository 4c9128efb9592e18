-- Successors that are kept by the direction of arrival and the free cells beside.
use Rattle.std.specs.Prelude.{ℕ, ◌≡◌, ◌==◌, ◌+◌, ◌*◌, ◌/◌, List, Option, Some, length, slice_get}
use Rattle.std.specs.Int.{bit_at}
use Rattle.nav_types.specs.declared.directions.Dir.{Dir}
use Rattle.nav_types.specs.declared.directions.Dir.TheVariants.{N, E, S, W, NE, SE, SW, NW}
use Rattle.nav_types.specs.declared.directions.DirSet.{DirSet}
use Rattle.nav_types.specs.DirSets.{holds}
use Rattle.jump_scan.specs.Successors.{AreSuccessors}
use Rattle.jump_search.specs.inner.Numbered.{arrival_number}

-- the bit that says whether the cell beside in that direction is free
abbrev pub bit_of : Dir → ℕ
bit_of NW = 0
bit_of N = 1
bit_of NE = 2
bit_of W = 3
bit_of E = 4
bit_of SW = 5
bit_of S = 6
bit_of SE = 7

-- the place of the successors after a step in `arrived`, where `free` is the directions of the free cells beside
pub record IsPlaceOf (free : DirSet) (arrived : Dir) (place : ℕ) : Type 0 where
  pub arrival : place / 256 + 1 ≡ arrival_number (Some arrived)
  pub beside : (dir : Dir) → (bit_at place (bit_of dir) == 1) ≡ holds free dir

-- There is a place for each arrival and set of free cells beside, and a set that is kept at one is of the successors whose
-- place it is.
pub record AreKnown (sets : List (Option DirSet)) : Type 0 where
  pub places : length sets ≡ 8 * 256
  pub right : (free : DirSet) (arrived : Dir) (place : ℕ) (dirs : DirSet) → IsPlaceOf free arrived place
      → slice_get sets place ≡ Some (Some dirs) → AreSuccessors free arrived dirs
