use Rattle.std.proofs.Common.{List, [], refl}
use Rattle.nav_types.specs.declared.directions.Dir.{Dir}
use Rattle.goal_reach.proofs.Joining.{joined_inside}
use Rattle.goal_reach.proofs.reaching.made_reachable.Goals as goal

pub least_cell-requires-clause-within : goal.least_cell-requires-clause-within
least_cell-requires-clause-within g c =
    let map = c.args.map.now in
    λ cell joined. joined_inside (g.M.View.passes map c.args.class) (g.M.View.extent map) (g.met.M.View.within map c.args.class) c.args.start cell c.requires.start joined

pub unreachable-requires : goal.unreachable-requires
unreachable-requires g c =
    let nothing : List Dir = [] in
    c.in-None.ensures.none c.args.start (nothing, refl)

pub returns-clause-sound : goal.returns-clause-sound
returns-clause-sound g c =
    let map = c.args.map.now in
    let cell = c.in-Some.cell in
    joined_inside (g.M.View.passes map c.args.class) (g.M.View.extent map) (g.met.M.View.within map c.args.class) c.args.start cell c.requires.start
    c.in-Some.ensures.least.within
