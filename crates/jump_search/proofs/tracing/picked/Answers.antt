use Rattle.std.proofs.Common.{◌-◌, Option, IfSome, subst, arith}
use Rattle.jump_search.specs.declared.tracing.LastRun.{LastRun}
use Rattle.jump_search.specs.inner.Traced.{HasRun, IsExact, IsAsEarly}
use Rattle.jump_search.proofs.Picking.{looked_begins, looked_more, looked_all, picked_earliest}
use Rattle.jump_search.proofs.tracing.picked.Goals as goal

pub walk-init : goal.walk-init
walk-init c =
    looked_begins c.args.nodes.now c.args.cell c.args.cost c.args.next c.last-after.result c.last-after.ensures.last

pub walk-preserved : goal.walk-preserved
walk-preserved c =
    let found = c.at.ensures in
    let node = c.at.result.now in
    let more = c.walk-test.true in
    let with = c.earliest_with-best.ensures in
    looked_more c.args.nodes.now c.args.cell c.args.cost c.args.next c.walk.after (c.walk.after - 1)
    c.before-after.result node c.walk.best c.earliest_with-best.result c.walk.invariant (omega (arith, more)) found
    with.here with.kept with.from (c.before-after.ensures.last node found)

pub unreachable-requires : goal.unreachable-requires
unreachable-requires c =
    let dir = c.requires.0 in
    subst (λ (best : Option LastRun). IsAsEarly c.args.next best dir) c.in_default.is
    (looked_all c.args.nodes.now c.args.cell c.args.cost c.args.next c.walk.after c.walk.best c.walk.invariant
    c.walk-test.false dir c.requires.1)

pub returns-clause-picked : goal.returns-clause-picked
returns-clause-picked c =
    let nodes = c.args.nodes.now in
    let cell = c.args.cell in
    let cost = c.args.cost in
    let next = c.args.next in
    let last = c.in-Some.last in
    let has : HasRun nodes cell cost last.dir last.run =
    subst (λ (best : Option LastRun). IfSome best (λ run. HasRun nodes cell cost run.dir run.run)) c.in-Some.is
    c.walk.invariant.some in
    picked_earliest (IsExact nodes cell cost) next last.dir (last.run, has) (λ other exact.
    subst (λ (best : Option LastRun). IsAsEarly next best other) c.in-Some.is
    (looked_all nodes cell cost next c.walk.after c.walk.best c.walk.invariant c.walk-test.false other exact))
