use Rattle.std.proofs.Common.{ap, sym, ◌∙◌}
use Rattle.std.specs.FinMap as map
use Rattle.std.specs.Prelude.{slice_get}
use Rattle.obstruction_store.proofs.Paging.{get_in}
use Rattle.obstruction_store.proofs.stores.Store.get.Goals as goal

pub returns : goal.returns
returns c = let at = c.self.inside in
    c.get.ensures
    ∙ sym (get_in at.pages c.args.id c.at.result.now c.self.invariant.own (ap (λ k. slice_get at.pages k) (sym c.page_of.ensures) ∙ c.at.ensures))
    ∙ ap (λ m. map.get m c.args.id) c.self.view_is
