use Rattle.std.proofs.Common.{ℕ, ◌<◌, List, get_or, arith}
use Rattle.nav_types.specs.declared.directions.Dir.TheVariants.{N}
use Rattle.walks.specs.Chosen.{preference}
use Rattle.walks.specs.inner.Tables.{IsSettledAlong, IsSettledAt}
use Rattle.walks.proofs.Sweeping.{relaxes_none, relaxes_more, relaxes_as, table_kept, each_dir}
use Rattle.walks.proofs.sweeps.relax.Goals as goal

pub loop-dir-init : goal.loop-dir-init
loop-dir-init g c = relaxes_none _ _ _ _ (λ k below. absurd (omega (arith, below)))

pub relax_along-fell-requires-clause-table : goal.relax_along-fell-requires-clause-table
relax_along-fell-requires-clause-table g c = table_kept _ _ _ _ _ _ c.loop-dir.invariant c.requires.table

pub loop-dir-preserved : goal.loop-dir-preserved
loop-dir-preserved g c =
    let passes = g.V.View.passes c.args.view.now c.args.class in
    let size = g.V.View.extent c.args.view.now in
    let Settled : ℕ → List ℕ → Type 0 = λ k table. IsSettledAlong passes size c.args.cell (get_or preference k N) table in
    relaxes_more passes size Settled c.loop-dir.dir-index _ _ _ c.loop-dir.fell c.relax_along-fell.result c.loop-dir.invariant c.relax_along-fell.ensures

pub returns : goal.returns
returns g c =
    let passes = g.V.View.passes c.args.view.now c.args.class in
    let size = g.V.View.extent c.args.view.now in
    let all : (k : ℕ) → k < 8 → k < c.loop-dir.dir-index = λ k below. omega (arith, below, c.loop-dir-test.false) in
    relaxes_as passes size _ (IsSettledAt passes size c.args.cell) _ _ _
    (λ table along. each_dir (λ dir. IsSettledAlong passes size c.args.cell dir table)
    (along 0 (all 0 (omega arith))) (along 1 (all 1 (omega arith))) (along 2 (all 2 (omega arith))) (along 3 (all 3 (omega arith)))
    (along 4 (all 4 (omega arith))) (along 5 (all 5 (omega arith))) (along 6 (all 6 (omega arith))) (along 7 (all 7 (omega arith))))
    c.loop-dir.invariant
