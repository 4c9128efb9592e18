use Rattle.obstruction_store.proofs.Fitting.{AllFit-moved}
use Rattle.obstruction_store.proofs.laws.all_fit_after_move.Goals as goal

pub returns : goal.returns
returns c = AllFit-moved
