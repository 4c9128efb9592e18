use Rattle.std.proofs.Common.{arith}
use Rattle.std.proofs.lemmas.List.Sums.{count_by-le-length}
use Rattle.lane_rows.specs.Rows.{has_class}
use Rattle.lane_rows.proofs.BlockLemmas.{count_more, count_all}
use Rattle.lane_rows.proofs.count_bit.Goals as goal

pub overflow_add-count : goal.overflow_add-count
overflow_add-count c =
    omega (arith, count_more c.args.class 64 c.sweep.start c.sweep.count c.class_word.result c.args.row.now c.block_at.result c.block_at.ensures c.class_word.ensures c.sweep.invariant, count_by-le-length (has_class c.args.class) c.args.row.now)

pub sweep-preserved : goal.sweep-preserved
sweep-preserved c = count_more c.args.class 64 c.sweep.start c.sweep.count c.class_word.result c.args.row.now c.block_at.result c.block_at.ensures c.class_word.ensures c.sweep.invariant

pub returns : goal.returns
returns c = count_all c.args.class c.sweep.start c.sweep.count c.args.row.now c.sweep-test.false c.sweep.invariant
