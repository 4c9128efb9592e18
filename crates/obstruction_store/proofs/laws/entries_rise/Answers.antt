use Rattle.obstruction_store.proofs.Listing.{IsStrictlyIncreasing-keys}
use Rattle.obstruction_store.proofs.laws.entries_rise.Goals as goal

pub returns : goal.returns
returns c = λ standing. IsStrictlyIncreasing-keys standing
