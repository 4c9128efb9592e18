use Rattle.std.proofs.Common.{◌+◌, ◌≤◌, get_or, ap, ◌∙◌, arith}
use Rattle.lane_rows.proofs.SpanLemmas.{span_more, span_inside, span_outside}
use Rattle.lane_rows.proofs.or_span.Goals as goal

pub sweep-preserved : goal.sweep-preserved
sweep-preserved c =
    let start = c.sweep.start in
    let fits : start + 16 ≤ c.args.to = omega arith in
    record {
      low = omega arith;
      high = fits;
      done = span_more c.args.from start (start + 16) c.args.mask c.args.row.now c.sweep.row c.or_block.new.block c.sweep.invariant.low (omega arith) (omega arith) c.sweep.invariant.done c.or_block.ensures;
    }

pub returns-clause-after : goal.returns-clause-after
returns-clause-after c =
    span_more c.args.from c.sweep.start c.args.to c.args.mask c.args.row.now c.sweep.row c.or_each.new.row c.sweep.invariant.low c.sweep.invariant.high c.requires.within c.sweep.invariant.done c.or_each.ensures

pub returns-clause-inside : goal.returns-clause-inside
returns-clause-inside c k above below =
    ap (λ row. get_or row k 0) (returns-clause-after c)
    ∙ span_inside c.args.from c.args.to c.args.mask c.args.row.now k above below c.requires.within

pub returns-clause-outside : goal.returns-clause-outside
returns-clause-outside c k side =
    ap (λ row. get_or row k 0) (returns-clause-after c)
    ∙ span_outside c.args.from c.args.to c.args.mask c.args.row.now c.requires.ordered c.requires.within k side
