use Rattle.std.proofs.Common.{◌<◌, arith}
use Rattle.std.proofs.lemmas.Bool.{false≢true}
use Rattle.goal_shapes.specs.inner.Framing.{contains_framed}
use Rattle.goal_reach.proofs.Joining.{joined_inside}
use Rattle.goal_reach.proofs.reaching.AreaCells.has_goal_cell.Goals as goal

pub returns : goal.returns
returns g c =
    let it = c.args.self.now in
    let map = it.map.now in (
      (λ test. absurd (false≢true test)),
      (λ (cell, (hit, joined)).
          let inside = joined_inside (g.M.View.passes map it.class) (g.M.View.extent map) (g.met.M.View.within map it.class) it.start cell c.requires.area.passable joined in
          let boxed = (c.requires.frame.exact cell inside).1 (contains_framed it.goal.now cell hit) in
          let north = boxed.north in
          let row : cell.j < c.loop-j.j = omega (arith, c.loop-j-test.false) in
          absurd (c.loop-j.invariant cell boxed.south row boxed.west boxed.east hit joined)),
    )
