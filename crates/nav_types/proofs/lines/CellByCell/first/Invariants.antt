use Rattle.std.proofs.Common.{◌<◌, ℕ, ◌≤◌, IsFalse}
use Rattle.nav_types.specs.Lines.{is_sought, cell_on, place_on}
use Rattle.nav_types.proofs.lines.CellByCell.first.Given as goal

abbrev pub invariant-loop-place : goal.invariant-loop-place
invariant-loop-place g l =
    record {
      reached : place_on l.axis l.fn.cell ≤ l.place;
      none : (k : ℕ) → place_on l.axis l.fn.cell ≤ k → k < l.place
          → IsFalse (is_sought l.passable (g.V.View.passes l.self.view.now l.class (cell_on l.axis l.line k)));
    }
