use Rattle.obstruction_store.proofs.Fitting.{AllFit-insert}
use Rattle.obstruction_store.proofs.laws.all_fit_after_add.Goals as goal

pub returns : goal.returns
returns c = AllFit-insert
