use Rattle.std.proofs.Common.{◌≡◌, ◌+◌, ◌<◌, ◌≤◌, ◌⊎◌, ℕ, ap, sym, subst, ◌∙◌}
use Rattle.nav_types.specs.declared.cells.Size.{Size}
use Rattle.std.specs.Vec.{with_items}
use Rattle.std.proofs.lemmas.List.{with_items_is}
use Rattle.navcell_grid.specs.Grids.{GridCells}
use Rattle.navcell_grid.proofs.RectLemmas.{row_gets, stays_out_of_row}
use Rattle.navcell_grid.proofs.grids.Grid.or_row.Goals as goal

pub returns-clause-row : goal.returns-clause-row
returns-clause-row c = λ i low.
    let size : c.self.inside.size ≡ c.args.self.now.size = ap (λ (g : GridCells). g.size) c.self.view_is in
    let cells : c.self.inside.cells.items ≡ c.args.self.now.cells = ap (λ (g : GridCells). g.cells) c.self.view_is in
    let after = c.or_places.new.cells in
    let new = with_items c.self.inside.cells after in
    let kept : new.items ≡ after = with_items_is c.self.inside.cells after (c.or_places.auto.cells ∙ c.deref_mut.ensures.len) in
    row_gets c.args.self.now (record { size = c.self.inside.size; cells = new.items }) c.self.inside.size
    i c.args.j c.args.from c.place-to.result c.place-before.result c.deref_mut.result.now after
    size size (c.deref_mut.ensures.value ∙ cells) kept c.place-to.ensures.place c.place-before.ensures.place
    (c.or_places.ensures.inside i (subst (λ (n : ℕ). i < n) (ap (λ (s : Size). s.w) (sym size) ∙ sym c.from.ensures) low))

pub returns-clause-others : goal.returns-clause-others
returns-clause-others c =
    let size : c.self.inside.size ≡ c.args.self.now.size = ap (λ (g : GridCells). g.size) c.self.view_is in
    let cells : c.self.inside.cells.items ≡ c.args.self.now.cells = ap (λ (g : GridCells). g.cells) c.self.view_is in
    let after = c.or_places.new.cells in
    let new = with_items c.self.inside.cells after in
    let kept : new.items ≡ after = with_items_is c.self.inside.cells after (c.or_places.auto.cells ∙ c.deref_mut.ensures.len) in
    stays_out_of_row c.args.self.now (record { size = c.self.inside.size; cells = new.items }) c.self.inside.size
    c.args.j c.place-to.result c.deref_mut.result.now after
    size size (c.deref_mut.ensures.value ∙ cells) kept c.place-to.ensures.place
    (λ k side. c.or_places.ensures.outside k
    (subst (λ (n : ℕ). (k < c.place-to.result) ⊎ (c.place-to.result + n ≤ k)) (sym c.from.ensures) side))
