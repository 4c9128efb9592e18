use Rattle.std.proofs.Common.{◌≡◌, ◌+◌, sym, subst, arith}
use Rattle.nav_types.specs.declared.cells.Cell.{Cell}
use Rattle.nav_types.specs.declared.directions.Dir.{Dir}
use Rattle.nav_types.specs.Walks.{Step}
use Rattle.nav_types.specs.Directions.{step_cost}
use Rattle.walks.specs.inner.Tables.{entry}
use Rattle.walks.proofs.Tracing.{arrives, no_step_enters, other_cost_enters}
use Rattle.walks.proofs.distances.Distances.arrival.Goals as goal

pub returns-then-cost-clause-some : goal.returns-then-cost-clause-some
returns-then-cost-clause-some g c =
    let passes = g.V.View.passes c.args.view.now c.args.class in
    let size = g.V.View.extent c.args.view.now in
    let costs = c.args.self.now.costs.items in
    let taken = λ (next : Cell) (step : Step passes c.opposite.result c.args.cell next). subst (λ (way : Dir). Step passes way c.args.cell next) c.opposite.ensures.value step in
    let same : entry size costs c.in-Some.before + step_cost c.args.dir ≡ entry size costs c.args.cell = omega (arith, c.cost.ensures, c.cost-2.ensures.value, c.cost-3.ensures, c.if-cost.true) in
    arrives passes c.args.self.now.start size costs c.args.cell c.in-Some.before c.args.dir (g.met.V.View.within c.args.view.now c.args.class)
    c.requires.exact c.requires.reached (taken c.in-Some.before c.in-Some.ensures.some) same

pub returns-else-cost-clause-none : goal.returns-else-cost-clause-none
returns-else-cost-clause-none g c =
    let passes = g.V.View.passes c.args.view.now c.args.class in
    let size = g.V.View.extent c.args.view.now in
    let costs = c.args.self.now.costs.items in
    let taken = λ (next : Cell) (step : Step passes c.opposite.result c.args.cell next). subst (λ (way : Dir). Step passes way c.args.cell next) c.opposite.ensures.value step in
    other_cost_enters passes c.args.self.now.start size costs c.args.cell c.in-Some.before c.args.dir (g.met.V.View.within c.args.view.now c.args.class)
    c.requires.exact c.requires.reached (taken c.in-Some.before c.in-Some.ensures.some)
    (λ same. c.if-cost.false (omega (arith, c.cost.ensures, c.cost-2.ensures.value, c.cost-3.ensures, same)))

pub returns-in_default-clause-none : goal.returns-in_default-clause-none
returns-in_default-clause-none g c =
    let passes = g.V.View.passes c.args.view.now c.args.class in
    no_step_enters passes c.args.self.now.start c.args.cell c.args.dir
    (λ next step. c.in_default.ensures.none next (subst (λ (way : Dir). Step passes way c.args.cell next) (sym c.opposite.ensures.value) step))
