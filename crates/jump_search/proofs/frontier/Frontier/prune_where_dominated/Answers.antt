use Rattle.std.proofs.Common.{false, refl, sym, subst}
use Rattle.open_heap.specs.Queue.{Queue}
use Rattle.jump_search.specs.inner.Underway.{Drops}
use Rattle.jump_search.proofs.Dropping.{drops_one, dearer_than}
use Rattle.jump_search.proofs.frontier.Frontier.prune_where_dominated.Goals as goal

pub returns-clause-waiting : goal.returns-clause-waiting
returns-clause-waiting c =
    let nodes = c.args.self.now.nodes in
    let queue = c.args.self.now.waiting in
    let node = c.at.result.now in
    let told = c.is_dominated.ensures c.if-not-is_dominated.false in
    let dearer = dearer_than nodes c.args.cell c.args.cost node c.requires.cheap told.0 told.1 in
    subst (λ (m : Queue). Drops false nodes queue m) (sym c.remove.ensures)
    (drops_one false nodes queue c.args.number node c.at.ensures refl dearer)
