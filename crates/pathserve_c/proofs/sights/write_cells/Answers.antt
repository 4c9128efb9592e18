use Rattle.std.proofs.Common.{◌≡◌, length, arith}
use Rattle.nav_types.specs.Cells.{cell_at}
use Rattle.pathserve_c.proofs.Sighted.{copied_all, copied_more, copied_none}
use Rattle.pathserve_c.proofs.sights.write_cells.Goals as goal

pub loop-at-init : goal.loop-at-init
loop-at-init c = copied_none c.args.cells.now c.args.buffer.now

pub loop-at-preserved : goal.loop-at-preserved
loop-at-preserved c =
    copied_more c.args.cells.now c.loop-at.at (cell_at 0 0) c.args.buffer.now c.loop-at.buffer c.of.result c.requires c.loop-at-test.true c.loop-at.invariant c.of.ensures

pub returns : goal.returns
returns c =
    let all : c.loop-at.at ≡ length c.args.cells.now = omega (arith, c.loop-at-test.false, c.loop-at.auto.at-end) in
    copied_all c.args.cells.now c.loop-at.at c.args.buffer.now c.loop-at.buffer all c.loop-at.invariant
