use Rattle.std.proofs.Common.{ℕ, List, length, sym, subst}
use Rattle.jump_search.specs.declared.nodes.Node.{Node}
use Rattle.jump_search.specs.inner.Numbered.{IsLastInSlot}
use Rattle.jump_search.specs.inner.Paged.{slot_of}
use Rattle.jump_search.proofs.nodes.Nodes.last.Goals as goal

pub returns-clause-last : goal.returns-clause-last
returns-clause-last c =
    let list = c.self.inside.list.items in
    let slot = slot_of c.args.cell in
    subst (λ (nodes : List Node). IsLastInSlot slot_of nodes slot (length nodes) c.get.result) c.self.view_is
    (subst (λ (after : ℕ). IsLastInSlot slot_of list slot (length list) after) (sym c.get.ensures)
    (c.self.invariant.chained.heads c.args.cell))
