-- How many things there are of a kind, and the numbers of groups of cells in the order of their first cells.
use Rattle.std.specs.Prelude.{ℕ, Bool, ◌≡◌, ◌≢◌, ◌+◌, List, length, IsTrue, IsFalse, Contains, AllPairs, Some, slice_get}
use Rattle.nav_types.specs.declared.cells.Cell.{Cell}

-- the list has each thing of the kind once, and nothing else
pub record Lists {A : Type 0} (Kind : A → Type 0) (list : List A) : Type 0 where
  pub each : (a : A) → Contains list a → Kind a
  pub all : (a : A) → Kind a → Contains list a
  pub once : AllPairs (λ a b. a ≢ b) list

-- there are exactly so many things of the kind
abbrev pub Counts : {A : Type 0} → (A → Type 0) → ℕ → Type 0
Counts {A} Kind count = (list : List A) × (Lists Kind list × (length list ≡ count))

-- the cell is passable, and no cell of its group comes before it
pub record IsFirst (passes : Cell → Bool) (Together Before : Cell → Cell → Type 0) (cell : Cell) : Type 0 where
  pub passable : IsTrue (passes cell)
  pub earliest : (other : Cell) → Together cell other → Before other cell → ⊥

-- the first cells of all groups, in order
pub record AreFirsts (passes : Cell → Bool) (Together Before : Cell → Cell → Type 0) (firsts : List Cell) : Type 0 where
  pub each : (cell : Cell) → Contains firsts cell → IsFirst passes Together Before cell
  pub all : (cell : Cell) → IsFirst passes Together Before cell → Contains firsts cell
  pub rising : AllPairs Before firsts

-- A passable cell's number is 1 plus the place of its group's first cell among the first cells of all groups, in order.
-- The number of an impassable cell is 0.
pub record HasNumber (passes : Cell → Bool) (Together Before : Cell → Cell → Type 0)
    (cell : Cell) (number : ℕ) : Type 0 where
  pub blocked : IsFalse (passes cell) → number ≡ 0
  pub placed : IsTrue (passes cell) → (firsts : List Cell) × (AreFirsts passes Together Before firsts
      × ((place : ℕ) × ((first : Cell)
      × ((slice_get firsts place ≡ Some first) × (Together cell first × (number ≡ place + 1))))))
