use Rattle.std.proofs.Common.{List, sym, subst}
use Rattle.jump_search.specs.declared.nodes.Node.{Node}
use Rattle.jump_search.specs.inner.Numbered.{HasState}
use Rattle.jump_search.specs.inner.Paged.{slot_of, cell_number}
use Rattle.jump_search.proofs.Covering.{covered_put}
use Rattle.jump_search.proofs.Numbering.{chained_put}
use Rattle.jump_search.proofs.nodes.Nodes.put.Goals as goal

pub invariant_of-self : goal.invariant_of-self
invariant_of-self c =
    let inside = c.self.inside in
    let table = inside.pages.table.items in
    let node = c.args.node in
    let has : HasState inside.list.items node.state c.args.number =
    subst (λ (nodes : List Node). HasState nodes node.state c.args.number) (sym c.self.view_is) c.requires in
    record {
      chained = chained_put slot_of (cell_number table inside.pages.numbers.items) inside.list.items inside.links.items
          c.args.number node c.self.invariant.chained has;
      covered = covered_put table inside.list.items c.args.number node has c.self.invariant.covered;
    }
