-- What the calls that spread marks do.
use Rattle.std.specs.Prelude.{ℕ, Bool, ◌≡◌, ◌+◌, ◌*◌, ◌^◌, ◌<◌, ◌≤◌, ◌⊎◌, length, slice_index, slice_set, sum, IsTrue}
use Rattle.nav_types.specs.declared.cells.Cell.{Cell}
use Rattle.nav_types.specs.declared.cells.Size.{Size}
use Rattle.nav_types.specs.declared.cells.Rect.{Rect}
use Rattle.nav_types.specs.declared.directions.Dir.{Dir}
use Rattle.nav_types.specs.Cells.{IsInRect, IsBefore}
use Rattle.nav_types.specs.declared.directions.Dir.TheVariants.{N, E, S, W, NE, SE, SW, NW}
use Rattle.flow_field.specs.declared.spreading.FieldSpread.{FieldSpread}
use Rattle.flow_field.specs.inner.Marks.{free, spot_of, Waits, IsSpreading, Every, NoStep}

abbrev pub WaitsIn : FieldSpread → ℕ → Type 0
WaitsIn spread spot = Waits spread.straight spread.diagonal spot

-- how many places wait
abbrev pub left : FieldSpread → ℕ
left spread = length spread.straight + length spread.diagonal

-- what grows less with each place that is taken
abbrev pub weight : FieldSpread → ℕ
weight spread = 2 * sum spread.marks.items + left spread

-- nothing changed
pub record Stays (old new : FieldSpread) : Type 0 where
  pub marks : new.marks.items ≡ old.marks.items
  pub straight : new.straight ≡ old.straight
  pub diagonal : new.diagonal ≡ old.diagonal

-- the mark at the place fell to this one, and the place waits
pub record Falls (at mark : ℕ) (old new : FieldSpread) : Type 0 where
  pub less : mark < slice_index old.marks.items at
  pub marks : new.marks.items ≡ slice_set old.marks.items at mark
  pub kept : (spot : ℕ) → WaitsIn old spot → WaitsIn new spot
  pub added : WaitsIn new at
  pub only : (spot : ℕ) → WaitsIn new spot → WaitsIn old spot ⊎ (spot ≡ at)
  pub left : left new ≡ left old + 1

-- both places have passable cells
abbrev pub AreFree : FieldSpread → ℕ → ℕ → Type 0
AreFree spread row column = (0 < slice_index spread.marks.items row) × (0 < slice_index spread.marks.items column)

-- the mark at the place fell to this one where that is less and the two places beside the step have passable cells
abbrev pub IsLowered : ℕ → ℕ → ℕ → ℕ → FieldSpread → FieldSpread → Type 0
IsLowered at row column mark old new = (AreFree old row column × Falls at mark old new)
    ⊎ ((AreFree old row column → slice_index old.marks.items at ≤ mark) × Stays old new)

-- the place was taken out of those that wait
pub record IsTaken (at : ℕ) (old new : FieldSpread) : Type 0 where
  pub marks : new.marks.items ≡ old.marks.items
  pub waited : WaitsIn old at
  pub kept : (spot : ℕ) → WaitsIn old spot → (spot ≡ at) ⊎ WaitsIn new spot
  pub only : (spot : ℕ) → WaitsIn new spot → WaitsIn old spot
  pub left : left old ≡ left new + 1

-- the place of a direction in the order in which steps are looked at
abbrev pub rank : Dir → ℕ
rank N = 0
rank E = 1
rank S = 2
rank W = 3
rank NE = 4
rank SE = 5
rank SW = 6
rank NW = 7

-- steps from the cell, from this rank on
abbrev pub StepsFrom : Cell → ℕ → Cell → Dir → Type 0
StepsFrom here first cell dir = (cell ≡ here) × (first ≤ rank dir)

-- the place has a place on each side in the table
pub record IsInner (width at : ℕ) (spread : FieldSpread) : Type 0 where
  pub below : width + 1 ≤ at
  pub above : at + width + 1 < length spread.marks.items
  pub few : length spread.marks.items < 2 ^ 32
  pub wide : 2 ≤ width

-- the steps from the place that have ranks from first up to last are settled, given what a cell gets by one
pub record Relaxes (width at mark cost first last : ℕ) (old new : FieldSpread) : Type 0 where
  pub long : length new.marks.items ≡ length old.marks.items
  pub same : slice_index new.marks.items at ≡ slice_index old.marks.items at
  pub less : weight new ≤ weight old
  pub spreads : (passes hit : Cell → Bool) (start : Cell) (size : Size) (here : Cell)
      → size.w + 2 ≡ width → spot_of size here ≡ at → IsTrue (passes here) → slice_index old.marks.items at < free
      → mark ≡ slice_index old.marks.items at + cost
      → IsSpreading passes hit start size Every (StepsFrom here first) old.marks.items (WaitsIn old)
      → IsSpreading passes hit start size Every (StepsFrom here last) new.marks.items (WaitsIn new)

-- all steps from the place are settled
pub record RelaxesAll (width at : ℕ) (old new : FieldSpread) : Type 0 where
  pub less : weight new ≤ weight old
  pub spreads : (passes hit : Cell → Bool) (start : Cell) (size : Size) (here : Cell)
      → size.w + 2 ≡ width → spot_of size here ≡ at → IsTrue (passes here) → slice_index old.marks.items at < free
      → IsSpreading passes hit start size Every (StepsFrom here 0) old.marks.items (WaitsIn old)
      → IsSpreading passes hit start size Every NoStep new.marks.items (WaitsIn new)

-- the cells of the rectangle before a cell, and those up to it
abbrev pub FoundBefore : Rect → Cell → Cell → Type 0
FoundBefore rect cell target = IsInRect rect target × IsBefore target cell

abbrev pub FoundTo : Rect → Cell → Cell → Type 0
FoundTo rect cell target = IsInRect rect target × (IsBefore target cell ⊎ (target ≡ cell))

-- marks spread from the targets of some map of this width, all found
abbrev pub IsSpreadingForSome : ℕ → FieldSpread → Type 0
IsSpreadingForSome width spread = (passes : Cell → Bool) × ((hit : Cell → Bool) × ((start : Cell) × ((size : Size)
    × ((size.w + 2 ≡ width) × IsSpreading passes hit start size Every NoStep spread.marks.items (WaitsIn spread)))))

-- marks that spread from the targets still do
abbrev pub KeepsSpreading : ℕ → FieldSpread → FieldSpread → Type 0
KeepsSpreading width old new = (passes hit : Cell → Bool) (start : Cell) (size : Size) → size.w + 2 ≡ width
    → IsSpreading passes hit start size Every NoStep old.marks.items (WaitsIn old)
    → IsSpreading passes hit start size Every NoStep new.marks.items (WaitsIn new)
