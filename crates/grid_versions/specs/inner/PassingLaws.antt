-- Passable cells lie in the map, and areas are numbered as areas are.
use Rattle.std.specs.Prelude.{ℕ, ◌≡◌, ◌↔◌, ◌+◌, Bool, true, false, IsTrue, IsFalse}
use Rattle.std.proofs.Common.{arith, rules, ⊎_elim}
use Rattle.std.proofs.lemmas.Bool.{cases_Bool}
use Rattle.nav_types.specs.declared.cells.Cell.{Cell}
use Rattle.nav_types.specs.Cells.{IsInside}
use Rattle.nav_types.specs.Walks.{Joined}
use Rattle.nav_types.specs.Regions.{HasArea, IsAreaBefore}
use Rattle.nav_types.proofs.CellOrder.{IsAreaBefore-asym, IsAreaBefore-cases}
use Rattle.nav_types.proofs.Walking.{Joined-sym, Joined-trans}
use Rattle.nav_types.proofs.FirstCells.{HasNumber-together}
use Rattle.grid_versions.specs.Passing.{passable_at}
use Rattle.grid_versions.specs.Versions.{MapState, passes_of}

-- only cells of the map pass
pub passes_within : (state : MapState) (class : ℕ) (cell : Cell) → IsTrue (passes_of state class cell)
    → IsInside state.map.size cell
unfolding passable_at
passes_within state class cell passes = search rules

-- 0 goes with an impassable cell
pub area_zero : (passes : Cell → Bool) (cell : Cell) (area : ℕ) → HasArea passes cell area
    → (area ≡ 0) ↔ IsFalse (passes cell)
area_zero passes cell area has = (
  λ none. ⊎_elim
      (λ (yes : passes cell ≡ true).
      let placed = has.placed yes in
      let at : area ≡ placed.1.1.0 + 1 = placed.1.1.1.1.1.1 in absurd (omega arith))
      (λ (no : passes cell ≡ false). no)
      (cases_Bool (passes cell)),
  has.blocked,
)

-- passable cells have one area number exactly where legal steps join them
pub area_joined : (passes : Cell → Bool) (a b : Cell) (m n : ℕ) → IsTrue (passes a) → IsTrue (passes b)
    → HasArea passes a m → HasArea passes b n → (m ≡ n) ↔ Joined passes a b
area_joined passes a b m n here there one two =
    HasNumber-together passes (Joined passes) IsAreaBefore (Joined-sym passes) (Joined-trans passes)
    IsAreaBefore-asym IsAreaBefore-cases a b m n here there one two
