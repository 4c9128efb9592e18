-- What edits and their replies name.
use Rattle.std.specs.Prelude.{ℕ, Bool, true, false}
use Rattle.posts.specs.declared.edits.Edit.{Edit}
use Rattle.posts.specs.declared.edits.Edit.TheVariants.{Add, Remove, Move}
use Rattle.posts.specs.declared.edits.EditReply.{EditReply}
use Rattle.posts.specs.declared.edits.EditReply.TheVariants.{Refused}

-- the number of the obstruction that an edit names
abbrev pub edited_id : Edit → ℕ
edited_id (Add id obstruction) = id
edited_id (Remove id) = id
edited_id (Move id x z) = id

-- whether an edit was refused, by its reply
abbrev pub is_refused : EditReply → Bool
is_refused (Refused refusal) = true
is_refused _ = false
