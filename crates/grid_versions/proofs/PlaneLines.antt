-- Lines of a map, by one test of its cells or by another that is the same.
use Rattle.std.proofs.Common.{ℕ, Bool, ◌≡◌, subst}
use Rattle.nav_types.specs.declared.cells.Cell.{Cell}
use Rattle.nav_types.specs.declared.cells.Size.{Size}
use Rattle.nav_types.specs.declared.straights.Axis.{Axis}
use Rattle.nav_types.specs.Lines.{cell_on, line_on, side_along}

-- what is true of the cell's line by one test and size is true of it by the same test and size
pub on_same_line : (Says : (ℕ → Bool) → ℕ → Type 0) (axis : Axis) (cell : Cell) (one other : Cell → Bool) (size extent : Size)
    → one ≡ other → size ≡ extent → Says (λ k. one (cell_on axis (line_on axis cell) k)) (side_along axis size)
    → Says (λ k. other (cell_on axis (line_on axis cell) k)) (side_along axis extent)
on_same_line Says axis cell one other size extent same equal says =
    subst (λ (s : Size). Says (λ k. other (cell_on axis (line_on axis cell) k)) (side_along axis s)) equal
    (subst (λ (p : Cell → Bool). Says (λ k. p (cell_on axis (line_on axis cell) k)) (side_along axis size)) same says)
