use Rattle.std.proofs.Common.{◌++◌, [], None, List, sym, subst}
use Rattle.std.proofs.lemmas.List.{append-nil}
use Rattle.nav_types.specs.declared.directions.Dir.{Dir}
use Rattle.walks.specs.Chosen.{IsChosenBack}
use Rattle.walks.proofs.CellTests.{same_tested, other_tested}
use Rattle.walks.proofs.Tracing.{chosen_push}
use Rattle.walks.proofs.distances.Distances.trace_back.Goals as goal

pub steps-init : goal.steps-init
steps-init g c = (
  c.requires.reached,
  λ rest chosen.
      (let P = λ (back : List Dir). IsChosenBack (g.V.View.passes c.args.view.now c.args.class) c.args.self.now.start None (back ++ rest) c.args.end in
      subst P (sym c.new-back.ensures) chosen),
)

pub picked-arrival-requires-clause-reached : goal.picked-arrival-requires-clause-reached
picked-arrival-requires-clause-reached g c = c.steps.invariant.0

pub steps-preserved : goal.steps-preserved
steps-preserved g c =
    let passes = g.V.View.passes c.args.view.now c.args.class in
    let start = c.args.self.now.start in
    let arrives = c.picked-arrival.ensures.arrives in (
      arrives.reached,
      λ rest chosen.
          (let P = λ (back : List Dir). IsChosenBack passes start None (back ++ rest) c.args.end in
          subst P (sym c.in_ok-push.ensures.ok)
          (chosen_push passes start c.args.end c.steps.cell c.picked-arrival.result.before c.steps.next c.picked-arrival.result.dir c.steps.back
          c.steps.invariant.1 (other_tested c.steps.cell start _ c.ne.ensures c.steps-test.true) c.picked-arrival.ensures.picked arrives.leads rest chosen)),
    )

pub returns : goal.returns
returns g c =
    let passes = g.V.View.passes c.args.view.now c.args.class in
    let P = λ (back : List Dir). IsChosenBack passes c.args.self.now.start None back c.args.end in
    subst P (append-nil c.steps.back) (c.steps.invariant.1 [] (sym (same_tested c.steps.cell c.args.self.now.start _ c.ne.ensures c.steps-test.false)))
