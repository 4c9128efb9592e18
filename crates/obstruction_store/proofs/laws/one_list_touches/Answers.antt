use Rattle.obstruction_store.proofs.Listing.{same_rising}
use Rattle.obstruction_store.proofs.laws.one_list_touches.Goals as goal

pub returns : goal.returns
returns c = λ size rect clearance standing first second one other.
    same_rising first second one.rising other.rising
    (λ number listed. other.all number (one.each number listed))
    (λ number listed. one.all number (other.each number listed))
