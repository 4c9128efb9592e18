-- What an edit of the standing obstructions is answered, and what stands after it.
use Rattle.std.specs.Prelude.{ℕ, ℤ, ◌==◌, not, if◌then◌else◌, List, [], ◌∷◌, Option, None, Some}
use Rattle.std.specs.FinMap as fin_map
use Rattle.nav_types.specs.declared.limits.TheConstants.{MAX_OBSTRUCTIONS}
use Rattle.obstruction_shapes.specs.declared.shapes.Obstruction.{Obstruction}
use Rattle.obstruction_shapes.specs.Shapes.{moved_to}
use Rattle.obstruction_store.specs.Standing.{Standing, moved}
use Rattle.posts.specs.declared.edits.Edit.{Edit}
use Rattle.posts.specs.declared.edits.Edit.TheVariants.{Add, Remove, Move}
use Rattle.posts.specs.declared.edits.EditReply.{EditReply}
use Rattle.posts.specs.declared.edits.EditReply.TheVariants.{Added, Removed, Moved, Refused}
use Rattle.posts.specs.declared.edits.Refusal.TheVariants.{BadShape, DuplicateId, StoreFull, UnknownId}
use Rattle.posts.specs.Maps.{Map}
use Rattle.posts.specs.Edits.{is_refused}
use Rattle.grid_versions.specs.Fitting.{fits}

-- an add is refused where the shape does not fit the map, else where its number stands, else where 65,536 obstructions
-- stand
abbrev pub add_reply : Map → Standing → ℕ → Obstruction → EditReply
add_reply map standing id obstruction = if not (fits map.size obstruction.shape) then Refused BadShape
    else (if fin_map.contains_key standing id then Refused DuplicateId
    else (if fin_map.len standing == MAX_OBSTRUCTIONS then Refused StoreFull else Added id))

-- a move is refused where its number does not stand, else where the shape does not fit the map with its middle at
-- (x, z)
abbrev pub move_reply : Map → Option Obstruction → ℕ → ℤ → ℤ → EditReply
move_reply map None id x z = Refused UnknownId
move_reply map (Some found) id x z = if fits map.size (moved_to found.shape x z) then Moved id else Refused BadShape

-- the reply to an edit; a remove is refused where its number does not stand
abbrev pub edit_reply : Map → Standing → Edit → EditReply
edit_reply map standing (Add id obstruction) = add_reply map standing id obstruction
edit_reply map standing (Remove id) = if fin_map.contains_key standing id then Removed id else Refused UnknownId
edit_reply map standing (Move id x z) = move_reply map (fin_map.get standing id) id x z

-- what stands after an edit that is not refused: the added obstruction stands too, the removed one no longer, and the
-- moved one with its middle at (x, z) and its old mask
abbrev pub with_edit : Standing → Edit → Standing
with_edit standing (Add id obstruction) = fin_map.insert standing id obstruction
with_edit standing (Remove id) = fin_map.remove standing id
with_edit standing (Move id x z) = moved standing id x z

-- what stands after an edit: a refused one leaves what stood
abbrev pub after_edit : Map → Standing → Edit → Standing
after_edit map standing edit = if is_refused (edit_reply map standing edit) then standing else with_edit standing edit

-- what stands after the edits, one after another
abbrev pub after_edits : Map → Standing → List Edit → Standing
after_edits map standing [] = standing
after_edits map standing (edit ∷ edits) = after_edits map (after_edit map standing edit) edits

-- the replies to the edits, one after another
abbrev pub edit_replies : Map → Standing → List Edit → List EditReply
edit_replies map standing [] = []
edit_replies map standing (edit ∷ edits) =
    edit_reply map standing edit ∷ edit_replies map (after_edit map standing edit) edits
