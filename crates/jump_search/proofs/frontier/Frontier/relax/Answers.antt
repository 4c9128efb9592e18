use Rattle.std.proofs.Common.{ℕ, ◌≡◌, ◌<◌, Some, Option, List, sym, ap, subst, ◌∙◌, arith}
use Rattle.std.specs.List.{slice_get}
use Rattle.std.proofs.lemmas.Option.{slice_get_within}
use Rattle.std.specs.FinMap as map
use Rattle.nav_types.specs.declared.directions.Dir.{Dir}
use Rattle.jump_search.specs.declared.nodes.Node.{Node}
use Rattle.jump_search.specs.declared.states.JumpState.{JumpState}
use Rattle.jump_search.specs.inner.Numbered.{HasState}
use Rattle.jump_search.specs.inner.Searched.{IsKeptRun}
use Rattle.jump_search.specs.inner.Underway.{estimate_of, Relaxes}
use Rattle.jump_search.proofs.Dropping.{drops_none}
use Rattle.jump_search.proofs.Listing.{one_item}
use Rattle.jump_search.proofs.Relaxing.{lower_unopened, lower_waits, relaxes_lowered, relaxes_none, relaxes_tied}
use Rattle.jump_search.proofs.frontier.Frontier.relax.Goals as goal

same_known : (nodes : List Node) (number : ℕ) (state : JumpState) (a : Node) → HasState nodes state number
    → slice_get nodes number ≡ Some a → a.state ≡ state
same_known nodes number state a has got =
    ap (λ (n : Node). n.state) (sym (one_item nodes number has.0 a has.1.0 got)) ∙ has.1.1

pub at-known-requires : goal.at-known-requires
at-known-requires g c =
    let has = c.requires.has in
    slice_get_within c.args.self.now.nodes c.args.number has.0 has.1.0

pub returns-then-node-known : goal.returns-then-node-known
returns-then-node-known g c =
    let node = c.args.node in
    let nodes = c.args.self.now.nodes in
    let number = c.args.number in
    let a = c.at-known.result.now in
    let same = same_known nodes number node.state a c.requires.has c.at-known.ensures in
    let queue = c.args.self.now.waiting in (
      queue,
      (
        relaxes_none (g.E.Estimate.least c.args.ahead.now) node nodes queue number a c.at-known.ensures same c.if-node-known.true,
        drops_none c.args.all nodes queue,
      ),
    )

pub returns-then-node-known-2 : goal.returns-then-node-known-2
returns-then-node-known-2 g c =
    let ahead = g.E.Estimate.least c.args.ahead.now in let node = c.args.node in
    let nodes = c.args.self.now.nodes in let queue = c.args.self.now.waiting in
    let number = c.args.number in
    let a = c.at-known.result.now in
    let run = c.kept_run-run.result in
    let same = same_known nodes number node.state a c.requires.has c.at-known.ensures in
    let kept = c.kept_run-run.ensures in
    let one : IsKeptRun node.state.arrived run a.run =
    subst (λ (d : Option Dir). IsKeptRun d run a.run) (sym c.requires.arrived) kept.one in
    let two : IsKeptRun node.state.arrived run node.run =
    subst (λ (d : Option Dir). IsKeptRun d run node.run) (sym c.requires.arrived) kept.other in (
      queue,
      (
        subst (λ (ns : List Node). Relaxes ahead node nodes ns queue queue) (sym c.put.ensures)
            (relaxes_tied ahead node nodes queue number run a c.at-known.ensures same c.if-node-known-2.true one two
            kept.either),
        drops_none c.args.all c.put.new.self queue,
      ),
    )

pub decrease_and_prune-requires-clause-waits : goal.decrease_and_prune-requires-clause-waits
decrease_and_prune-requires-clause-waits g c =
    let q = c.requires.queued in
    let nodes = c.args.self.now.nodes in
    let a = c.at-known.result.now in
    let same = same_known nodes c.args.number c.args.node.state a c.requires.has c.at-known.ensures in
    let most = c.if-node-known.false in
    let differ = c.if-node-known-2.false in
    lower_waits q.0 (g.E.Estimate.least c.args.ahead.now) q.1.0 nodes c.args.self.now.waiting c.args.number a c.args.node q.1.1.0
    c.at-known.ensures (sym same) (omega (arith, most, differ))

pub returns : goal.returns
returns g c =
    let ahead = g.E.Estimate.least c.args.ahead.now in let node = c.args.node in
    let nodes = c.args.self.now.nodes in let queue = c.args.self.now.waiting in
    let q = c.requires.queued in
    let number = c.args.number in
    let a = c.at-known.result.now in
    let same = same_known nodes number node.state a c.requires.has c.at-known.ensures in
    let most = c.if-node-known.false in
    let differ = c.if-node-known-2.false in
    let less : node.cost < a.cost = omega (arith, most, differ) in
    let unopened = lower_unopened q.0 ahead q.1.0 nodes queue number a node q.1.1.0 c.at-known.ensures (sym same) q.1.1.1
    less in
    let lowered = map.insert queue number (estimate_of ahead node) in (
      lowered,
      (
        subst (λ (ns : List Node). Relaxes ahead node nodes ns queue lowered) (sym c.in_ok-decrease_and_prune.ensures.nodes)
            (relaxes_lowered ahead node nodes queue number a c.requires.waiting unopened c.at-known.ensures same less),
        c.in_ok-decrease_and_prune.ensures.waiting,
      ),
    )
