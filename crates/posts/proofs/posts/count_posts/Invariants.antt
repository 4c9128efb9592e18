use Rattle.std.proofs.Common.{◌≡◌, take}
use Rattle.posts.specs.Posts.{post_count}
use Rattle.posts.proofs.posts.count_posts.Given as goal

abbrev pub invariant-loop-posts : goal.invariant-loop-posts
invariant-loop-posts l = l.count ≡ post_count (take l.posts-index l.turn)
