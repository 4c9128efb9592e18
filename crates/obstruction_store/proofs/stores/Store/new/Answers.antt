use Rattle.obstruction_store.proofs.Paging.{nothing_stands, ArePages-empty}
use Rattle.obstruction_store.proofs.stores.Store.new.Goals as goal

pub invariant_of-result : goal.invariant_of-result
invariant_of-result c = ArePages-empty c.in_ok-pages.pages c.in_ok-pages.ensures

pub returns : goal.returns
returns c = nothing_stands c.in_ok-pages.pages 509 c.in_ok-pages.ensures
