-- All that turns know of maps. What is said of turns, of the machine and of its runs rests on these words and on
-- `IsAnswerTo` alone.
use Rattle.std.specs.Prelude.{length}
use Rattle.std.specs.FinMap as fin_map
use Rattle.nav_types.specs.Regions.{HasTallies, HasRelabelled}
pub use Rattle.obstruction_store.specs.Standing.{Standing}
use Rattle.posts.specs.declared.posts.Post.{Post}
use Rattle.posts.specs.declared.posts.Post.TheVariants.{Edit as Editing, Ask as Asking}
use Rattle.posts.specs.declared.replies.TurnReplies.{TurnReplies}
use Rattle.posts.specs.Maps.{Map}
pub use Rattle.grid_versions.specs.Versions.{MapState}
use Rattle.grid_versions.specs.Passing.{passable_at}
use Rattle.grid_versions.specs.Editing.{after_edit as edited_by}

-- nothing stands
unfoldable pub bare : Standing
bare = fin_map.empty

-- what stands after a post; a request leaves it as it is
unfoldable pub edited : Map → Standing → Post → Standing
edited m s (Editing edit) = edited_by m s edit
edited m s (Asking request) = s

-- the reply to a turn has the numbers of regions, edges and areas of all classes once the turn's edits are made, and the
-- number of pairs of class and chunk that they changed
unfoldable pub TellsNumbers : Map → Standing → Standing → TurnReplies → Type 0
TellsNumbers m before after told =
    HasTallies (length m.classes) (passable_at m after) told.tallies.regions told.tallies.edges told.tallies.areas
    × HasRelabelled (length m.classes) (passable_at m before) (passable_at m after) told.relabelled
