use Rattle.std.proofs.Common.{◌≤◌, length, arith}
use Rattle.pathserve_c.proofs.Sighted.{held_all, held_more}
use Rattle.pathserve_c.proofs.sights.cells_of.Goals as goal

pub loop-flat-preserved : goal.loop-flat-preserved
loop-flat-preserved c =
    held_more c.args.flats.now c.loop-flat.flat-index (record { i = 0; j = 0 }) c.loop-flat.cells c.push.new.self c.cell_of.result
    c.loop-flat-test.true c.cell_of.ensures c.loop-flat.invariant c.in_ok-push.ensures.ok

pub returns : goal.returns
returns c =
    let past : length c.args.flats.now ≤ c.loop-flat.flat-index = omega (arith, c.loop-flat-test.false) in
    held_all c.args.flats.now c.loop-flat.flat-index c.loop-flat.cells past c.loop-flat.invariant
