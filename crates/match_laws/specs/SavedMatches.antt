-- The replies to the turn by which a match goes on from what stands.
use Rattle.std.specs.Prelude.{ℕ}
use Rattle.obstruction_shapes.specs.declared.shapes.Obstruction.{Obstruction}
use Rattle.posts.specs.declared.edits.EditReply.TheVariants.{Added}
use Rattle.posts.specs.declared.replies.Reply.{Reply}
use Rattle.posts.specs.declared.replies.Reply.TheVariants.{Edit as Edited}

-- the reply to the add of an obstruction that was added
abbrev pub added_to : ℕ × Obstruction → Reply
added_to entry = Edited (Added entry.0)
