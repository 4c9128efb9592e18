use Rattle.std.proofs.Common.{List, refl, sym, subst, arith}
use Rattle.std.proofs.lemmas.Option.{slice_get_within}
use Rattle.jump_search.specs.declared.nodes.Node.{Node}
use Rattle.jump_search.specs.inner.Numbered.{IsAsCheap}
use Rattle.jump_search.proofs.Listing.{get_set_same}
use Rattle.jump_search.proofs.frontier.Frontier.decrease_and_prune.Goals as goal

pub keep_cheapest-requires : goal.keep_cheapest-requires
keep_cheapest-requires g c =
    let nodes = c.args.self.now.nodes in
    let node = c.args.node in
    let has = c.requires.same in
    let low = slice_get_within nodes c.args.number has.0 has.1.0 in
    subst (λ (ns : List Node). IsAsCheap ns node.state.cell node.cost) (sym c.in_ok-lower.ensures.nodes)
    (c.args.number, (node, (get_set_same nodes c.args.number node low, (refl, omega arith))))
