use Rattle.std.proofs.Common.{◌⊎◌}
use Rattle.nav_types.specs.declared.cells.Cell.{Cell}
use Rattle.goal_reach.specs.inner.Rings.{IsInBlock, IsOnRing}
use Rattle.goal_reach.proofs.Choosing.{either_best, best_stays}
use Rattle.goal_reach.proofs.Ringing.{south_side, north_side, west_side, east_side, IsOnSides, ring_sides, sides_ring}
use Rattle.goal_reach.proofs.rings.best_on_ring.Goals as goal

pub returns : goal.returns
returns g c =
    let rank = g.C.Choice.rank_of c.args.choice.now in let offered = g.C.Choice.offered c.args.choice.now in
    let inner = c.args.inner in let outer = c.args.outer in
    let s : Cell → Type 0 = λ cell. IsInBlock (south_side inner outer) cell in let n : Cell → Type 0 = λ cell. IsInBlock (north_side inner outer) cell in
    let w : Cell → Type 0 = λ cell. IsInBlock (west_side inner outer) cell in let e : Cell → Type 0 = λ cell. IsInBlock (east_side inner outer) cell in
    let rows = either_best rank offered s n c.best_in_block.result c.best_in_block-2.result c.better.result c.best_in_block.ensures c.best_in_block-2.ensures
    c.better.ensures.one c.better.ensures.first c.better.ensures.second in
    let columns = either_best rank offered w e c.best_in_block-3.result c.best_in_block-4.result c.better-2.result c.best_in_block-3.ensures c.best_in_block-4.ensures
    c.better-2.ensures.one c.better-2.ensures.first c.better-2.ensures.second in
    let sides = either_best rank offered (λ cell. s cell ⊎ n cell) (λ cell. w cell ⊎ e cell) c.better.result c.better-2.result c.better-3.result rows columns
    c.better-3.ensures.one c.better-3.ensures.first c.better-3.ensures.second in
    best_stays rank (λ cell. offered cell × IsOnSides inner outer cell) (λ cell. offered cell × IsOnRing inner outer cell) c.better-3.result sides
    (λ cell on. (on.0, sides_ring inner outer c.requires.holds c.requires.inner.columns c.requires.inner.rows cell on.1))
    (λ cell on. (on.0, ring_sides inner outer cell on.1))
