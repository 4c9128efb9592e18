use Rattle.jump_search.proofs.Keeping.{known_kept}
use Rattle.jump_search.proofs.known_successors.KnownSuccessors.find.Goals as goal

pub invariant_of-self : goal.invariant_of-self
invariant_of-self c =
    known_kept c.self.inside.sets.items c.args.free c.args.arrived c.args.place c.successors_among-dirs.result
    c.self.invariant c.requires.place c.successors_among-dirs.ensures
