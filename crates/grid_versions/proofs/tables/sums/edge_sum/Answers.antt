use Rattle.std.proofs.Common.{ℕ, List, length, arith}
use Rattle.grid_versions.proofs.BuildLemmas.{sum_more}
use Rattle.grid_versions.proofs.tables.sums.edge_sum.Goals as goal

pub overflow_add-total : goal.overflow_add-total
overflow_add-total c =
    let more = sum_more (λ (edges : List (ℕ × ℕ)). length edges) c.args.edges.now c.loop-at.at c.at.result.now c.at.ensures in
    omega (arith, more.0, more.1)

pub loop-at-preserved : goal.loop-at-preserved
loop-at-preserved c =
    let more = sum_more (λ (edges : List (ℕ × ℕ)). length edges) c.args.edges.now c.loop-at.at c.at.result.now c.at.ensures in
    omega (arith, more.0)
