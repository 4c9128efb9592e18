use Rattle.std.proofs.Common.{◌∙◌, get_or, arith}
use Rattle.std.specs.Prelude.{min, max}
use Rattle.std.proofs.lemmas.List.{length-set}
use Rattle.landmarks.proofs.Spanning.{one_more}
use Rattle.landmarks.proofs.tables.Landmarks.widened.Goals as goal

pub loop-table-preserved : goal.loop-table-preserved
loop-table-preserved c =
    let at = c.loop-table.table in
    let span = c.args.span.now in
    let numbers = c.numbers_of-numbers.result.now in
    let was = c.loop-table.invariant in
    let below = c.loop-table-test.true in (
      length-set c.loop-table.least at c.min.result ∙ was.0,
      (
        length-set c.loop-table.greatest at c.max.result ∙ was.1.0,
        (
          one_more c.loop-table.least (λ k. min (get_or span.least k 0) (get_or numbers k 0)) at c.min.result
              (omega (arith, below, was.0)) c.min.ensures was.1.1.0,
          one_more c.loop-table.greatest (λ k. max (get_or span.greatest k 0) (get_or numbers k 0)) at c.max.result
              (omega (arith, below, was.1.0)) c.max.ensures was.1.1.1,
        ),
      ),
    )
