use Rattle.obstruction_store.proofs.Holding.{held-empty}
use Rattle.obstruction_store.proofs.pages.Page.new.Goals as goal

pub returns : goal.returns
returns c = held-empty c.new.result c.new-2.result.slots c.new.ensures.empty
