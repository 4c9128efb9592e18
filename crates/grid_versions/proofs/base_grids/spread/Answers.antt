use Rattle.std.proofs.Common.{◌≡◌, ◌-◌, ◌<◌, ◌≤◌, inl, inr, sym, ap, subst, ◌∙◌, ⊎_elim, arith}
use Rattle.std.specs.Prelude.{bit_or}
use Rattle.std.proofs.lemmas.Bool.{cases_lt}
use Rattle.nav_types.specs.declared.cells.Size.{Size}
use Rattle.nav_types.specs.Cells.{cell_at, IsInside}
use Rattle.navcell_grid.specs.Grids.{number_at}
use Rattle.grid_versions.proofs.base_grids.spread.Goals as goal

pub north-preserved : goal.north-preserved
north-preserved c =
    let old = c.args.grid.now in
    let now = c.north.grid in
    let new = c.or_row.new.self in
    let j = c.north.j in
    let step = c.args.step in
    let was = c.north.invariant in
    let top = was.top in
    let more : step < j = c.north-test.true in
    record {
      extent = c.or_row.ensures.size ∙ was.extent;
      top = omega arith;
      done = λ cell inside from high.
          let column = inside.column in let row = inside.row in
          ⊎_elim
          (λ (here : cell.j < j).
          let is : cell.j ≡ j - 1 = omega arith in
          ap (λ r. number_at new (cell_at cell.i r)) is
          ∙ c.or_row.ensures.row cell.i (subst (λ (s : Size). cell.i < s.w) (sym was.extent) column)
          ∙ ap (λ n. bit_or n (number_at now (cell_at cell.i (j - 1 - step))))
          (was.others (cell_at cell.i (j - 1)) (record { column = column; row = omega arith }) (inl (omega arith)))
          ∙ ap (λ n. bit_or (number_at old (cell_at cell.i (j - 1))) n)
          (was.others (cell_at cell.i (j - 1 - step)) (record { column = column; row = omega arith }) (inl (omega arith)))
          ∙ ap (λ r. bit_or (number_at old (cell_at cell.i r)) (number_at old (cell_at cell.i (r - step)))) (sym is))
          (λ (later : j ≤ cell.j).
          c.or_row.ensures.others cell (subst (λ (s : Size). IsInside s cell) (sym was.extent) inside) (λ same. omega arith)
          ∙ was.done cell inside later high)
          (cases_lt cell.j j);
      others = λ cell inside low.
          c.or_row.ensures.others cell (subst (λ (s : Size). IsInside s cell) (sym was.extent) inside)
          (λ same. ⊎_elim (λ (south : cell.j < j - 1). omega arith) (λ (first : cell.j < step). omega arith) low)
          ∙ was.others cell inside (⊎_elim (λ (south : cell.j < j - 1). inl (omega arith)) (λ (first : cell.j < step). inr first) low);
    }
