use Rattle.std.proofs.Common.{ℕ, List, take, ◌∙◌, ap, sym}
use Rattle.std.specs.FinMap as map
use Rattle.obstruction_shapes.specs.declared.shapes.Obstruction.{Obstruction}
use Rattle.obstruction_store.specs.inner.Paged.{entries_in}
use Rattle.obstruction_store.proofs.Paging.{entries_more}
use Rattle.obstruction_store.proofs.stores.Store.listed.Goals as goal

pub loop-at-preserved : goal.loop-at-preserved
loop-at-preserved c =
    let pages = c.self.inside.pages in
    c.in_ok-add_all.ensures (entries_in (take c.loop-at.at pages)) c.loop-at.invariant
    ∙ ap (λ (es : List (ℕ × Obstruction)). map.from_entries es) (sym (entries_more pages c.loop-at.at c.at.result.now c.at.ensures))
