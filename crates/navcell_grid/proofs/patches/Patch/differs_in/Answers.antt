use Rattle.std.proofs.Common.{arith}
use Rattle.navcell_grid.proofs.PatchCells.{differs_below_none, differs_below_more, differs_below_all}
use Rattle.navcell_grid.proofs.patches.Patch.differs_in.Goals as goal

pub loop-j-init : goal.loop-j-init
loop-j-init c = differs_below_none c.args.rect c.args.self.now c.args.other.now

pub loop-j-preserved : goal.loop-j-preserved
loop-j-preserved c = λ k.
    let rect = c.args.rect in let j = c.loop-j.j in
    let low = c.loop-j-test.true in
    differs_below_more k rect j c.loop-j.bits c.differs-bits.result c.args.self.now c.args.other.now c.span.result.now c.span-in-loop-j.result.now
    c.requires.inside.columns c.loop-j.auto.j (omega arith) c.span.ensures.width c.span.ensures.cells c.span-in-loop-j.ensures.cells
    (c.differs-bits.ensures.differ k) (c.loop-j.invariant k)

pub returns : goal.returns
returns c = λ k. differs_below_all k c.args.rect c.loop-j.j c.loop-j.bits c.args.self.now c.args.other.now (omega arith) (c.loop-j.invariant k)
