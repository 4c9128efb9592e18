use Rattle.std.proofs.Common.{◌≡◌, take}
use Rattle.posts.specs.Posts.{jobs}
use Rattle.turn_core.proofs.turn_versions.jobs_of.Given as goal

abbrev pub invariant-loop-posts : goal.invariant-loop-posts
invariant-loop-posts l = l.made ≡ jobs (take l.posts-index l.posts-items)
