use Rattle.std.proofs.Common.{length, arith}
use Rattle.chunk_regions.specs.Labelling.{Labelling}
use Rattle.grid_versions.proofs.BuildLemmas.{sum_more}
use Rattle.grid_versions.proofs.tables.sums.region_sum.Goals as goal

pub overflow_add-total : goal.overflow_add-total
overflow_add-total c =
    let more = sum_more (λ (one : Labelling). length one.firsts) c.args.labels.now c.loop-at.at c.at.result.now c.at.ensures in
    omega (arith, more.0, more.1)

pub loop-at-preserved : goal.loop-at-preserved
loop-at-preserved c =
    let more = sum_more (λ (one : Labelling). length one.firsts) c.args.labels.now c.loop-at.at c.at.result.now c.at.ensures in
    omega (arith, more.0)
