use Rattle.obstruction_store.proofs.Fitting.{AllFit-empty}
use Rattle.obstruction_store.proofs.laws.all_fit_in_empty.Goals as goal

pub returns : goal.returns
returns c = AllFit-empty
