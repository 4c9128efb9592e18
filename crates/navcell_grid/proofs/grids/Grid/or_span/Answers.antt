use Rattle.std.proofs.Common.{◌≡◌, ap, ◌∙◌}
use Rattle.std.specs.Vec.{with_items}
use Rattle.std.proofs.lemmas.List.{with_items_is}
use Rattle.navcell_grid.specs.Grids.{GridCells}
use Rattle.navcell_grid.proofs.RectLemmas.{stays_out_of_span}
use Rattle.navcell_grid.proofs.grids.Grid.or_span.Goals as goal

pub returns-clause-others : goal.returns-clause-others
returns-clause-others c =
    let size : c.self.inside.size ≡ c.args.self.now.size = ap (λ (g : GridCells). g.size) c.self.view_is in
    let cells : c.self.inside.cells.items ≡ c.args.self.now.cells = ap (λ (g : GridCells). g.cells) c.self.view_is in
    let after = c.or_span.new.row in
    let new = with_items c.self.inside.cells after in
    let kept : new.items ≡ after = with_items_is c.self.inside.cells after (c.or_span.auto.row ∙ c.deref_mut.ensures.len) in
    stays_out_of_span c.args.self.now (record { size = c.self.inside.size; cells = new.items }) c.self.inside.size
    c.args.j c.args.i0 c.args.i1 c.place-from.result c.place-to.result c.deref_mut.result.now after
    c.requires.ordered c.requires.column size size (c.deref_mut.ensures.value ∙ cells) kept
    c.place-from.ensures.place c.place-to.ensures.place c.or_span.ensures.outside
