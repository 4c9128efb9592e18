-- What a search that looks no further than a greatest cost knows when it ends.
use Rattle.std.specs.Prelude.{ℕ, suc, Bool, ◌≡◌, ◌+◌, ◌≤◌, ◌⊎◌, List, Option, None, Some}
use Rattle.nav_types.specs.declared.cells.Cell.{Cell}
use Rattle.jump_search.specs.declared.nodes.Node.{Node}
use Rattle.jump_search.specs.declared.searching.Best.{Best}
use Rattle.jump_search.specs.inner.Searched.{IsSearched}
use Rattle.jump_search.specs.inner.Underway.{opened_count, IsHalted}

-- how it has ended: with a best hit within the greatest cost, or with none, where estimates have passed that
abbrev pub HasEndedWithin : Bool → (Cell → Bool) → (Cell → Bool) → Cell → (Cell → ℕ) → ℕ → List Node → Option Best → Type 0
HasEndedWithin all passes hit start ahead most nodes None = IsHalted all passes hit start ahead (suc most) nodes
HasEndedWithin all passes hit start ahead most nodes (Some best) =
    IsSearched all passes hit start ahead best.cell best.cost nodes × (best.cost ≤ most)

-- wherever it stops: nothing was counted, or so many nodes as were opened, up to an estimate within the greatest cost
abbrev pub IsHaltedWithin : Bool → (Cell → Bool) → (Cell → Bool) → Cell → (Cell → ℕ) → (most before after : ℕ) → Type 0
IsHaltedWithin all passes hit start ahead most before after = (after ≡ before) ⊎ ((nodes : List Node) × ((floor : ℕ)
    × ((floor ≤ most) × (IsHalted all passes hit start ahead floor nodes × (after ≡ before + opened_count nodes)))))
