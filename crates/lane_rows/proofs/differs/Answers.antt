use Rattle.std.proofs.Common.{bit_or}
use Rattle.std.specs.Simd.Lanes.{fold_l}
use Rattle.lane_rows.proofs.DifferLemmas.{seen_none, seen_more, seen_all, differ_from, agree_from, same_from}
use Rattle.lane_rows.proofs.differs.Goals as goal

pub sweep-init : goal.sweep-init
sweep-init c = seen_none 64 c.args.a.now c.args.b.now

pub sweep-preserved : goal.sweep-preserved
sweep-preserved c =
    seen_more 64 c.sweep.start c.sweep.bits c.block_at.result c.block_at-in-sweep.result c.args.a.now c.args.b.now
    c.requires c.sweep.auto.bits.0 c.block_at.ensures c.block_at-in-sweep.ensures c.sweep.invariant

pub returns-clause-differ : goal.returns-clause-differ
returns-clause-differ c =
    differ_from (fold_l bit_or 0 c.sweep.bits) c.args.a.now c.args.b.now c.requires
    (seen_all c.sweep.start c.sweep.bits c.args.a.now c.args.b.now c.requires c.sweep-test.false c.sweep.invariant)

pub returns-clause-agree : goal.returns-clause-agree
returns-clause-agree c =
    agree_from (fold_l bit_or 0 c.sweep.bits) c.args.a.now c.args.b.now c.requires
    (seen_all c.sweep.start c.sweep.bits c.args.a.now c.args.b.now c.requires c.sweep-test.false c.sweep.invariant)

pub returns-clause-same : goal.returns-clause-same
returns-clause-same c =
    same_from (fold_l bit_or 0 c.sweep.bits) c.args.a.now c.args.b.now c.requires
    (seen_all c.sweep.start c.sweep.bits c.args.a.now c.args.b.now c.requires c.sweep-test.false c.sweep.invariant)
