-- Tables on their way, which are made in parts.
use Rattle.std.specs.Prelude.{ℕ, Bool, ◌≡◌, ◌+◌, ◌≤◌, ◌<◌, ◌⊎◌, List, length, IsTrue}
use Rattle.nav_types.specs.declared.cells.Cell.{Cell}
use Rattle.nav_types.specs.declared.cells.Size.{Size}
use Rattle.nav_types.specs.Cells.{IsInside}
use Rattle.landmarks.specs.inner.Fields.{spots, AreMarks, HasRoom, AreGentleBefore, IsWritten}

-- A table on its way, of a class on a map of this size: how many rows of passable cells are marked, before which place the
-- marks were found gentle, and the marks.
pub record Half : Type 0 where
  pub size : Size
  pub class : ℕ
  pub rows : ℕ
  pub checked : ℕ
  pub marks : List ℕ

-- what is made of the table is right for a map with these passable cells
pub record IsBegun (passes : Cell → Bool) (half : Half) : Type 0 where
  pub inside : (cell : Cell) → IsTrue (passes cell) → IsInside half.size cell
  pub marks : AreMarks passes half.size 0 half.rows half.marks
  pub gentle : AreGentleBefore (half.size.w + 2) half.checked half.marks

-- there is a mark for each place of the map and its border, and round the place for which the table is begun
pub record IsSound (half : Half) (place : ℕ) : Type 0 where
  pub long : length half.marks ≡ spots half.size
  pub room : HasRoom half.marks
  pub near : place + half.size.w + 3 < spots half.size
  pub rows : half.rows ≤ half.size.h
  pub checked : half.checked + half.size.w + 3 ≤ length half.marks

-- all cells of a table are marked, and all squares of the marks were found gentle
pub record IsDone (half : Half) : Type 0 where
  pub rows : half.size.h ≤ half.rows
  pub squares : length half.marks ≤ half.checked + half.size.w + 3

-- one table has the numbers of one that is done, or nothing changed
abbrev pub IsTaken : Half → ℕ → List ℕ → List ℕ → Type 0
IsTaken half table old new = (IsDone half × IsWritten table (length half.marks) half.marks old new) ⊎ (new ≡ old)
