-- A diagonal step, by the bits of the rows of its two cells.
use Rattle.std.proofs.Common.{◌≡◌, ℕ, Bool, true, false, ◌&&◌, IsTrue, IsFalse, eqb, List, refl, sym, ap, ◌∙◌, subst}
use Rattle.std.proofs.lemmas.Bool.{and_parts, both_ways}
use Rattle.nav_types.specs.declared.cells.Cell.{Cell}
use Rattle.nav_types.specs.declared.directions.Dir.{Dir}
use Rattle.nav_types.specs.Cells.{cell_at}
use Rattle.nav_types.specs.Directions.{Leads}
use Rattle.nav_types.specs.Walks.{Step}
use Rattle.nav_types.proofs.CellOrder.{same_cell}
use Rattle.nav_types.proofs.Walking.{leads_to_same}
use Rattle.class_planes.specs.Planes.{AreFreeBits}
use Rattle.class_planes.specs.inner.Runs.{bit_in}
use Rattle.class_planes.proofs.PlaneLemmas.{told}

all_true : (a b c : Bool) → IsTrue a → IsTrue b → IsTrue c → IsTrue (a && (b && c))
all_true true true c one two three = three
all_true true false c one two three = two
all_true false b c one two three = one

-- a bit of a row says whether its cell is passable
row_bit : (passes : Cell → Bool) (row : List ℕ) (i j : ℕ) → AreFreeBits (λ i. passes (cell_at i j)) row
    → eqb (bit_in row i) 1 ≡ passes (cell_at i j)
row_bit passes row i j bits = ap (λ (b : ℕ). eqb b 1) (bits i) ∙ told (passes (cell_at i j))

-- whether the step is legal
abbrev pub is_legal : (row next_row : List ℕ) (from to : Cell) → Bool
is_legal row next_row from to =
    eqb (bit_in next_row to.i) 1 && (eqb (bit_in row to.i) 1 && eqb (bit_in next_row from.i) 1)

pub open_step : (passes : Cell → Bool) (dir : Dir) (from to : Cell) (row next_row : List ℕ)
    → AreFreeBits (λ i. passes (cell_at i from.j)) row → AreFreeBits (λ i. passes (cell_at i to.j)) next_row
    → Leads dir from to → IsTrue (passes from) → IsTrue (is_legal row next_row from to) → Step passes dir from to
open_step passes dir from to row next_row bits next_bits leads start legal =
    let ends = and_parts (eqb (bit_in next_row to.i) 1) (eqb (bit_in row to.i) 1 && eqb (bit_in next_row from.i) 1) legal in
    let sides = and_parts (eqb (bit_in row to.i) 1) (eqb (bit_in next_row from.i) 1) ends.1 in
    record {
      leads = leads;
      start = start;
      next = subst (λ (c : Cell). IsTrue (passes c)) (same_cell (cell_at to.i to.j) to refl refl)
          (sym (row_bit passes next_row to.i to.j next_bits) ∙ ends.0);
      side = sym (row_bit passes row to.i from.j bits) ∙ sides.0;
      ahead = sym (row_bit passes next_row from.i to.j next_bits) ∙ sides.1;
    }

pub no_step : (passes : Cell → Bool) (dir : Dir) (from to : Cell) (row next_row : List ℕ)
    → AreFreeBits (λ i. passes (cell_at i from.j)) row → AreFreeBits (λ i. passes (cell_at i to.j)) next_row
    → Leads dir from to → IsFalse (is_legal row next_row from to) → (next : Cell) → Step passes dir from next → ⊥
no_step passes dir from to row next_row bits next_bits leads shut next taken =
    let step : Step passes dir from to = subst (λ (c : Cell). Step passes dir from c)
    (leads_to_same dir from next to taken.leads leads) taken in
    both_ways (is_legal row next_row from to) shut
    (all_true (eqb (bit_in next_row to.i) 1) (eqb (bit_in row to.i) 1) (eqb (bit_in next_row from.i) 1)
    (row_bit passes next_row to.i to.j next_bits
    ∙ subst (λ (c : Cell). IsTrue (passes c)) (same_cell to (cell_at to.i to.j) refl refl) step.next)
    (row_bit passes row to.i from.j bits ∙ step.side)
    (row_bit passes next_row from.i to.j next_bits ∙ step.ahead))
