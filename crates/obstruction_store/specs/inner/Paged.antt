-- How a store spreads what stands over pages: each number has its page.
use Rattle.std.specs.Prelude.{◌≡◌, ℕ, ◌≤◌, ◌%◌, List, [], ◌∷◌, ◌++◌, Some, length, slice_get}
use Rattle.std.specs.FinMap as map
use Rattle.nav_types.specs.declared.limits.TheConstants.{MAX_OBSTRUCTIONS}
use Rattle.obstruction_shapes.specs.declared.shapes.Obstruction.{Obstruction}
use Rattle.obstruction_store.specs.Standing.{Standing, Stands}

-- the place of the page of a number, of 509 pages
abbrev pub page_of : ℕ → ℕ
page_of number = number % 509

-- the entries of the pages, page after page
abbrev pub entries_in : List Standing → List (ℕ × Obstruction)
entries_in [] = []
entries_in (page ∷ pages) = map.entries page ++ entries_in pages

-- what stands on all pages together
abbrev pub standing_in : List Standing → Standing
standing_in pages = map.from_entries (entries_in pages)

-- each page has numbers of its own alone
abbrev pub HaveOwn : List Standing → Type 0
HaveOwn pages = (at : ℕ) (page : Standing) → slice_get pages at ≡ Some page → (number : ℕ) → Stands page number
    → page_of number ≡ at

-- there are 509 pages, each has numbers of its own alone, and so many obstructions stand on all together
pub record ArePages (pages : List Standing) (count : ℕ) : Type 0 where
  pub each : length pages ≡ 509
  pub own : HaveOwn pages
  pub counted : count ≡ map.len (standing_in pages)
  pub few : count ≤ MAX_OBSTRUCTIONS
