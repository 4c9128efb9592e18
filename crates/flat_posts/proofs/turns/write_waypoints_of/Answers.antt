use Rattle.std.proofs.Common.{[]}
use Rattle.flat_posts.proofs.Filled.{filling-none}
use Rattle.flat_posts.proofs.turns.write_waypoints_of.Goals as goal

pub returns : goal.returns
returns c = (c.take_waypoints.ensures 0 [] c.args.buffer.now (filling-none 0 c.args.buffer.now)).page
