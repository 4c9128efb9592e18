use Rattle.std.proofs.Common.{◌≡◌, ◌++◌, take}
use Rattle.posts.specs.Posts.{requests}
use Rattle.turn_core.proofs.turn_versions.push_requests.Given as goal

abbrev pub invariant-loop-post : goal.invariant-loop-post
invariant-loop-post l = l.made ≡ l.initial.made ++ requests (take l.post-index l.posts)
