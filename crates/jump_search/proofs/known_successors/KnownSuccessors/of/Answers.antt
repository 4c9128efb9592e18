use Rattle.jump_search.proofs.Keeping.{known_read}
use Rattle.jump_search.proofs.known_successors.KnownSuccessors.of.Goals as goal

pub returns-in-Some : goal.returns-in-Some
returns-in-Some c =
    let place = c.place_of-place in
    known_read c.self.inside.sets.items c.args.free c.args.arrived place.result c.in-Some.dirs c.index.result.now
    c.self.invariant place.ensures.place place.ensures.few c.index.ensures c.in-Some.is
