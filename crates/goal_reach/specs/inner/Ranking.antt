-- Cells with their ranks, and the best one of a set.
use Rattle.std.specs.Prelude.{ℕ, ◌≡◌, ◌<◌, ◌⊎◌, Option, Some, None}
use Rattle.nav_types.specs.declared.cells.Cell.{Cell}
use Rattle.nav_types.specs.Cells.{IsNotAfter}
use Rattle.goal_reach.specs.declared.choices.Ranked.{Ranked}
use Rattle.goal_reach.specs.Choices.{IsLeastBy}

-- a cell with its rank
abbrev pub with_rank : (Cell → ℕ) → Cell → Ranked
with_rank rank cell = record { cell = cell; rank = rank cell }

-- a is of less rank than b, or of the same rank and not after b in cell order
abbrev pub IsPreferred : Ranked → Ranked → Type 0
IsPreferred a b = (a.rank < b.rank) ⊎ ((a.rank ≡ b.rank) × IsNotAfter a.cell b.cell)

-- the cell of least rank of the set, with its rank; none where the set is empty
abbrev pub IsBest : (Cell → ℕ) → (Cell → Type 0) → Option Ranked → Type 0
IsBest rank Within None = (cell : Cell) → Within cell → ⊥
IsBest rank Within (Some best) = (best.rank ≡ rank best.cell) × IsLeastBy rank Within best.cell

-- the first is as good as the second, where there is a second
abbrev pub IsNoWorse : Option Ranked → Option Ranked → Type 0
IsNoWorse result None = Unit {0}
IsNoWorse None (Some b) = ⊥
IsNoWorse (Some a) (Some b) = IsPreferred a b
