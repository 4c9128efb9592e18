use Rattle.std.proofs.Common.{take}
use Rattle.flat_posts.specs.TurnPosts.{ArePosts}
use Rattle.flat_posts.proofs.turn_posts.read_posts.Given as goal

abbrev pub invariant-loop-flat : goal.invariant-loop-flat
invariant-loop-flat l = ArePosts l.map (take l.flat-index l.flats) l.read
