use Rattle.obstruction_store.proofs.Listing.{Contains-entries}
use Rattle.obstruction_store.proofs.laws.entries_are_what_stands.Goals as goal

pub returns : goal.returns
returns c = λ standing number obstruction. Contains-entries standing number obstruction
