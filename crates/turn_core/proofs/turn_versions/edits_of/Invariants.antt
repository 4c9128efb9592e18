use Rattle.std.proofs.Common.{◌≡◌, take}
use Rattle.std.specs.Prelude.{filter_map, flat_map}
use Rattle.posts.specs.Posts.{edit_of}
use Rattle.turn_core.proofs.turn_versions.edits_of.Given as goal

abbrev pub invariant-loop-posts : goal.invariant-loop-posts
invariant-loop-posts l = l.edits ≡ flat_map (filter_map edit_of) (take l.posts-index l.posts-items)
