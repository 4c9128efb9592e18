use Rattle.std.proofs.Common.{ℕ, ◌-◌, List, cond, ap, ◌∙◌, subst, arith}
use Rattle.nav_types.specs.declared.cells.Cell.{Cell}
use Rattle.nav_types.specs.Places.{cell_of}
use Rattle.walks.specs.inner.Tables.{IsSettledAt, IsSettled, Lowers}
use Rattle.walks.proofs.Sweeping.{relaxes_none, relaxes_more, relaxes_as, table_kept, settled_throughout}
use Rattle.walks.proofs.sweeps.sweep.Goals as goal

pub loop-passed-init : goal.loop-passed-init
loop-passed-init g c = relaxes_none _ _ _ _ (λ k below. absurd (omega (arith, below)))

pub relax-fell-requires-clause-table : goal.relax-fell-requires-clause-table
relax-fell-requires-clause-table g c = table_kept _ _ _ _ _ _ c.loop-passed.invariant c.requires.table

pub loop-passed-preserved : goal.loop-passed-preserved
loop-passed-preserved g c =
    let passes = g.V.View.passes c.args.view.now c.args.class in
    let size = g.V.View.extent c.args.view.now in
    let Settled : ℕ → List ℕ → Type 0 = λ k table. IsSettledAt passes size (cell_of size (cond c.args.forward k (c.cell_count-count.result - 1 - k))) table in
    let P = λ (cell : Cell). Lowers passes size (IsSettledAt passes size cell) c.loop-passed.costs.items c.relax-fell.new.costs.items c.relax-fell.result in
    let here = c.cell_at_place.ensures.value ∙ ap (cell_of size) c.place_after-place.ensures.place in
    relaxes_more passes size Settled c.loop-passed.passed _ _ _ c.loop-passed.fell c.relax-fell.result c.loop-passed.invariant (subst P here c.relax-fell.ensures)

pub returns : goal.returns
returns g c =
    let passes = g.V.View.passes c.args.view.now c.args.class in
    let size = g.V.View.extent c.args.view.now in
    relaxes_as passes size _ (IsSettled passes size) _ _ _
    (λ table each. settled_throughout passes size table c.args.forward c.cell_count-count.result c.loop-passed.passed c.cell_count-count.ensures.value c.loop-passed-test.false each)
    c.loop-passed.invariant
