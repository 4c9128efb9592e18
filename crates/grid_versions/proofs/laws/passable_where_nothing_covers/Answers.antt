use Rattle.grid_versions.proofs.PassingLemmas.{passable_in_words}
use Rattle.grid_versions.proofs.laws.passable_where_nothing_covers.Goals as goal

pub returns : goal.returns
returns c = passable_in_words
