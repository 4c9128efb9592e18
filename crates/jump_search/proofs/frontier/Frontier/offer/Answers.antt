use Rattle.std.proofs.Common.{◌≤◌, List, length, inl, inr, refl, sym, subst, not, eqb}
use Rattle.std.specs.FinMap as map
use Rattle.jump_search.specs.declared.nodes.Node.{Node}
use Rattle.jump_search.specs.inner.Underway.{estimate_of, Relaxes}
use Rattle.jump_search.proofs.Relaxing.{relaxes_added, left_below}
use Rattle.jump_search.proofs.frontier.Frontier.offer.Goals as goal

pub returns-in-Dominated : goal.returns-in-Dominated
returns-in-Dominated g c =
    let node = c.args.node in
    inr (
      left_below (not (eqb g.row.ALL 0)) c.args.self.now.nodes node.state.cell node.cost c.bound_of.result c.bound_of.ensures.all
          c.bound_of.ensures.cost c.in-Dominated.ensures,
      (refl, refl),
    )

pub returns-in_ok-relax-in-Known : goal.returns-in_ok-relax-in-Known
returns-in_ok-relax-in-Known g c =
    inl c.in_ok-relax-in-Known.ensures

pub returns-in_ok-insert_and_prune-in-New : goal.returns-in_ok-insert_and_prune-in-New
returns-in_ok-insert_and_prune-in-New g c =
    let ahead = g.E.Estimate.least c.args.ahead.now in let node = c.args.node in
    let nodes = c.args.self.now.nodes in let queue = c.args.self.now.waiting in
    let met = c.in_ok-insert_and_prune-in-New.ensures in
    let few = subst (λ (ns : List Node). length ns ≤ 4294967296) met.nodes met.few in
    let longer = map.insert queue (length nodes) (estimate_of ahead node) in
    inl (
      longer,
      (
        subst (λ (ns : List Node). Relaxes ahead node nodes ns queue longer) (sym met.nodes)
            (relaxes_added ahead node nodes queue c.requires.waiting c.in-New.ensures few),
        met.waiting,
      ),
    )
