use Rattle.obstruction_store.proofs.Fitting.{AllFit-remove}
use Rattle.obstruction_store.proofs.laws.all_fit_after_remove.Goals as goal

pub returns : goal.returns
returns c = AllFit-remove
