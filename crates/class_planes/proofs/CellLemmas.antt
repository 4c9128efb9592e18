-- Cells off the map.
use Rattle.std.proofs.Common.{◌≡◌, ℕ, ◌<◌, ◌≤◌, Bool, false, IsTrue, arith}
use Rattle.std.proofs.lemmas.Bool.{false_from_ne_true}
use Rattle.nav_types.specs.declared.cells.Cell.{Cell}
use Rattle.nav_types.specs.declared.cells.Size.{Size}
use Rattle.nav_types.specs.Cells.{IsInside, cell_at}

-- a cell past the last column is not passable
pub east_of : (size : Size) (passes : Cell → Bool) (i j : ℕ)
    → ((cell : Cell) → IsTrue (passes cell) → IsInside size cell)
    → size.w ≤ i → passes (cell_at i j) ≡ false
east_of size passes i j within past =
    false_from_ne_true (passes (cell_at i j))
    (λ yes. let below : i < size.w = (within (cell_at i j) yes).column in omega arith)

-- a cell past the last row is not passable
pub north_of : (size : Size) (passes : Cell → Bool) (i j : ℕ)
    → ((cell : Cell) → IsTrue (passes cell) → IsInside size cell)
    → size.h ≤ j → passes (cell_at i j) ≡ false
north_of size passes i j within past =
    false_from_ne_true (passes (cell_at i j))
    (λ yes. let below : j < size.h = (within (cell_at i j) yes).row in omega arith)
