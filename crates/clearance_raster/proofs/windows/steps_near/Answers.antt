use Rattle.std.proofs.Common.{arith, ◌≤◌, ◌^◌, unsigned_abs}
use Rattle.std.proofs.lemmas.Option.{IfSome_then}
use Rattle.clearance_raster.proofs.BlockedColumns.{near_is, if_none_then, read_back}
use Rattle.clearance_raster.proofs.windows.steps_near.Goals as goal

pub returns-clause-near : goal.returns-clause-near
returns-clause-near c = IfSome_then c.multiples_between.result c.multiples_between.ensures.between
    (λ run between k within.
    let slow : unsigned_abs c.args.slope ≤ 2 ^ 51 = omega (arith, c.requires.slope) in
    let rise = near_is c.args.start c.rising.result c.args.slope c.args.most c.in_ok-least.least c.in_ok-least.greatest c.unsigned_abs.result k
    (rw (read_back c.args.slope slow, read_back c.args.start c.requires.start) at c.rising.ensures.far)
    (rw (read_back c.rising.result c.rising.ensures.bounded) at c.in_ok-least.ensures.near) (rw (read_back c.args.slope slow) at c.unsigned_abs.ensures.value) in
    let is = between k within in
    (λ from. rise.0 (is.0 from), λ near. is.1 (rise.1 near)))

pub returns-clause-none : goal.returns-clause-none
returns-clause-none c = if_none_then c.multiples_between.result c.multiples_between.ensures.none
    (λ none k within near.
    let slow : unsigned_abs c.args.slope ≤ 2 ^ 51 = omega (arith, c.requires.slope) in
    none k within
    ((near_is c.args.start c.rising.result c.args.slope c.args.most c.in_ok-least.least c.in_ok-least.greatest c.unsigned_abs.result k
    (rw (read_back c.args.slope slow, read_back c.args.start c.requires.start) at c.rising.ensures.far)
    (rw (read_back c.rising.result c.rising.ensures.bounded) at c.in_ok-least.ensures.near) (rw (read_back c.args.slope slow) at c.unsigned_abs.ensures.value)).1 near))
