use Rattle.grid_versions.proofs.EditingLemmas.{AllFit-after_edits}
use Rattle.grid_versions.proofs.laws.all_fit_after_edits.Goals as goal

pub returns : goal.returns
returns c = AllFit-after_edits
