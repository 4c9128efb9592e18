use Rattle.goal_shapes.proofs.Reaches.{column_is_near}
use Rattle.goal_shapes.proofs.boxes.reached.Goals as goal

pub unreachable-requires : goal.unreachable-requires
unreachable-requires c = column_is_near c.args.count c.args.reach c.args.x c.requires.on_map c.requires.reach.0 c.in-None.ensures.none_near
