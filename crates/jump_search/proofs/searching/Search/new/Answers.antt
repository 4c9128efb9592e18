use Rattle.std.proofs.Common.{◌≡◌, [], ◌∷◌, ◌++◌, List, length, None, sym, ap, subst, ◌∙◌}
use Rattle.std.specs.FinMap as map
use Rattle.std.specs.Ordering.{nat_cmp}
use Rattle.open_heap.specs.Queue.{Queue}
use Rattle.jump_search.specs.declared.nodes.Node.{Node}
use Rattle.jump_search.specs.inner.Underway.{estimate_of, IsUnderway}
use Rattle.jump_search.proofs.Starting.{start_node, underway_start}
use Rattle.jump_search.proofs.searching.Search.new.Goals as goal

pub insert_node-requires-clause-waits : goal.insert_node-requires-clause-waits
insert_node-requires-clause-waits g c =
    let number = length c.clear.new.self.nodes in
    ap (λ (m : Queue). map.get m number) c.clear.ensures.waiting ∙ map.get-empty nat_cmp number

pub returns-clause-underway : goal.returns-clause-underway
returns-clause-underway g c = λ all passes hit.
    let start = c.args.start in let ahead = g.E.Estimate.least c.args.ahead.now in
    let node = start_node start in
    let empty = c.clear.ensures in
    let made = c.in_ok-insert_node.ensures in
    let nodes : c.insert_node.new.self.nodes ≡ node ∷ [] = made.nodes ∙ ap (λ (ns : List Node). ns ++ node ∷ []) empty.nodes in
    let waiting : c.insert_node.new.self.waiting ≡ map.insert map.empty 0 (estimate_of ahead node) =
    made.waiting ∙ ap (λ (m : Queue). map.insert m (length c.clear.new.self.nodes) (estimate_of ahead node))
    empty.waiting
    ∙ ap (λ (ns : List Node). map.insert map.empty (length ns) (estimate_of ahead node)) empty.nodes in
    subst (λ (ns : List Node). IsUnderway all passes hit start ahead 0 ns c.insert_node.new.self.waiting None) (sym nodes)
    (subst (λ (m : Queue). IsUnderway all passes hit start ahead 0 (node ∷ []) m None) (sym waiting)
    (underway_start all passes hit start ahead))
