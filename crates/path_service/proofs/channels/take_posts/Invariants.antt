use Rattle.std.proofs.Common.{List}
use Rattle.posts.specs.declared.posts.Post.{Post}
use Rattle.path_service.specs.inner.Channels.{Took}
use Rattle.path_service.proofs.channels.take_posts.Given as goal

abbrev pub invariant-taking : goal.invariant-taking
invariant-taking g l = (got : List Post) × Took l.fn.lane l.lane l.fn.pending.items l.pending.items l.room l.left got

abbrev pub decreases-taking : goal.decreases-taking
decreases-taking g l = l.left
