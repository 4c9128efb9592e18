use Rattle.std.proofs.Common.{◌≡◌, ◌++◌, take}
use Rattle.std.specs.Prelude.{filter_map}
use Rattle.posts.specs.Posts.{edit_of}
use Rattle.turn_core.proofs.turn_versions.push_edits.Given as goal

abbrev pub invariant-loop-post : goal.invariant-loop-post
invariant-loop-post l = l.edits ≡ l.initial.edits ++ filter_map edit_of (take l.post-index l.posts)
