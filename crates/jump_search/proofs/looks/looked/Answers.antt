use Rattle.std.proofs.Common.{[], ◌∷◌, ◌++◌, ◌∙◌, refl, sym, subst, arith, IsTrue}
use Rattle.nav_types.specs.declared.cells.Size.{Size}
use Rattle.nav_types.specs.Cells.{IsInside}
use Rattle.nav_types.proofs.Walking.{IsWalk-push, walk_cost-push}
use Rattle.jump_search.proofs.looks.looked.Goals as goal

pub loop-steps-init : goal.loop-steps-init
loop-steps-init g c = record { free = c.requires.start; walk = ([], (refl, refl)); low = omega arith }

pub hits-requires-clause-inside : goal.hits-requires-clause-inside
hits-requires-clause-inside g c =
    subst (λ (size : Size). IsInside size c.loop-steps.cell) (sym c.size-size.ensures)
    (g.met.R.View.within c.args.runs.now c.args.class c.loop-steps.cell c.loop-steps.invariant.free)

pub step-requires-clause-inside : goal.step-requires-clause-inside
step-requires-clause-inside g c =
    g.met.R.View.within c.args.runs.now c.args.class c.loop-steps.cell c.loop-steps.invariant.free

pub returns-then-hits : goal.returns-then-hits
returns-then-hits g c =
    let known = c.loop-steps.invariant in
    let cell = c.loop-steps.cell in
    let is = sym c.hits.ensures ∙ c.if-hits.true in (
      cell,
      (subst (λ (size : Size). IsTrue (g.A.Aim.hit c.args.aim.now size cell)) c.size-size.ensures is, known.walk),
    )

pub overflow_add-cost : goal.overflow_add-cost
overflow_add-cost g c =
    let low = c.loop-steps.invariant.low in
    let most = c.cost.ensures.most in
    omega (arith, low, most)

pub loop-steps-preserved : goal.loop-steps-preserved
loop-steps-preserved g c =
    let passes = g.R.View.passes c.args.runs.now c.args.class in
    let known = c.loop-steps.invariant in
    let dir = c.in-Some.dir in
    let dirs = known.walk.0 in
    let sums = walk_cost-push dirs dir in
    let so_far = known.walk.1.1 in
    let low = known.low in
    let each = c.cost.ensures.value in
    let most = c.cost.ensures.most in
    record {
      free = c.in-Some-step.ensures.some.next;
      walk = (
        dirs ++ dir ∷ [],
        (
          IsWalk-push passes dirs c.args.start c.loop-steps.cell c.in-Some-step.next dir known.walk.1.0 c.in-Some-step.ensures.some,
          omega (arith, sums, so_far, each),
        ),
      );
      low = omega (arith, low, most);
    }
