use Rattle.jump_search.specs.inner.Paged.{slot_of, cell_number}
use Rattle.jump_search.proofs.Numbering.{chained_down}
use Rattle.jump_search.proofs.nodes.Nodes.least.Goals as goal

pub least_before-requires-clause-down : goal.least_before-requires-clause-down
least_before-requires-clause-down c =
    let inside = c.self.inside in
    chained_down slot_of (cell_number inside.pages.table.items inside.pages.numbers.items) inside.list.items
    inside.links.items c.self.invariant.chained
