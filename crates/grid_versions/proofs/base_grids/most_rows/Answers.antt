use Rattle.std.proofs.Common.{◌≤◌, ℕ, List, arith}
use Rattle.std.proofs.lemmas.List.Elements.{All-contains, All-from_get_or}
use Rattle.nav_types.specs.declared.cells.Rect.{Rect}
use Rattle.nav_types.specs.Numbering.{rows}
use Rattle.grid_versions.proofs.base_grids.most_rows.Goals as goal

pub returns-clause-most : goal.returns-clause-most
returns-clause-most c = λ rect mask has.
    let none : Rect × ℕ = (record { i0 = 0; j0 = 0; i1 = 0; j1 = 0 }, 0) in
    let base : List (Rect × ℕ) = c.args.base.now in
    All-contains (λ (e : Rect × ℕ). rows e.0 ≤ c.loop-entry.most) base (rect, mask)
    (All-from_get_or (λ (e : Rect × ℕ). rows e.0 ≤ c.loop-entry.most) base none
    (λ p low. c.loop-entry.invariant.each p (omega (arith, low, c.loop-entry-test.false))))
    has
