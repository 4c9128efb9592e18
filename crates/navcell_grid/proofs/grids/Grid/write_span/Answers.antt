use Rattle.std.proofs.Common.{◌≡◌, ℕ, ◌≤◌, inl, inr, ⊎_elim, refl, ap, ◌∙◌, arith}
use Rattle.std.specs.Vec.{with_items}
use Rattle.std.proofs.lemmas.List.{with_items_is}
use Rattle.nav_types.specs.Places.{place_of}
use Rattle.nav_types.specs.Cells.{cell_at}
use Rattle.navcell_grid.specs.Grids.{GridCells}
use Rattle.navcell_grid.proofs.RectLemmas.{stays_out_of_span}
use Rattle.navcell_grid.proofs.grids.Grid.write_span.Goals as goal

pub returns-clause-others : goal.returns-clause-others
returns-clause-others c =
    let size : c.self.inside.size ≡ c.args.self.now.size = ap (λ (g : GridCells). g.size) c.self.view_is in
    let cells : c.self.inside.cells.items ≡ c.args.self.now.cells = ap (λ (g : GridCells). g.cells) c.self.view_is in
    let after = c.write_places.new.cells in
    let new = with_items c.self.inside.cells after in
    let kept : new.items ≡ after = with_items_is c.self.inside.cells after (c.write_places.auto.cells ∙ c.deref_mut.ensures.len) in
    let i0 = c.args.i0 in let i1 = c.args.i1 in
    let ordered : i0 ≤ i1 = c.requires.ordered in
    let from = c.place-from.result in
    let to : ℕ = place_of c.self.inside.size (cell_at i1 c.args.j) in
    let from_is = c.place-from.ensures.place in
    let each = c.requires.each in
    stays_out_of_span c.args.self.now (record { size = c.self.inside.size; cells = new.items }) c.self.inside.size
    c.args.j i0 i1 from to c.deref_mut.result.now after
    c.requires.ordered c.requires.column size size (c.deref_mut.ensures.value ∙ cells) kept
    from_is refl (λ k out. c.write_places.ensures.outside k (⊎_elim (λ before. inl before) (λ past. inr (omega arith)) out))
