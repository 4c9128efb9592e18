-- What a test of two cells' columns and rows says.
use Rattle.std.proofs.Common.{Bool, true, false, not, ◌&&◌, eqb, ◌≡◌, sym, ap, ◌∙◌}
use Rattle.std.proofs.lemmas.Bool.{and_parts, and_from, not-false, not_from_true, both_ways, eqb-true, eq-eqb}
use Rattle.nav_types.specs.declared.cells.Cell.{Cell}
use Rattle.nav_types.proofs.CellOrder.{same_cell}

pub same_tested : (a b : Cell) (test : Bool) → test ≡ not (eqb a.j b.j && eqb a.i b.i) → test ≡ false → a ≡ b
same_tested a b test is tested =
    let parts = and_parts (eqb a.j b.j) (eqb a.i b.i) (not-false (eqb a.j b.j && eqb a.i b.i) (sym is ∙ tested)) in
    same_cell a b (eqb-true a.i b.i parts.1) (eqb-true a.j b.j parts.0)

pub other_tested : (a b : Cell) (test : Bool) → test ≡ not (eqb a.j b.j && eqb a.i b.i) → test ≡ true → b ≡ a → ⊥
other_tested a b test is tested same =
    let rows = eq-eqb a.j b.j (ap (λ (cell : Cell). cell.j) (sym same)) in
    let columns = eq-eqb a.i b.i (ap (λ (cell : Cell). cell.i) (sym same)) in
    both_ways test (is ∙ not_from_true (eqb a.j b.j && eqb a.i b.i) (and_from (eqb a.j b.j) (eqb a.i b.i) rows columns)) tested
