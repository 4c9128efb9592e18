-- What is held of a turn whose edits are made.
use Rattle.std.specs.Prelude.{◌≡◌, length}
use Rattle.nav_types.specs.Regions.{HasRelabelled}
use Rattle.posts.specs.Posts.{jobs}
use Rattle.grid_versions.specs.Versions.{passes_of}
use Rattle.turn_core.specs.declared.edited_turns.EditedTurn.TheInside.{Inside}
use Rattle.turn_core.specs.Turns.{after_turn}
use Rattle.turn_core.specs.ReadyTurns.{Ready}
use Rattle.turn_core.specs.inner.ReplyLists.{edits_told_in, lists_ahead}

-- the turn, and what stood before it
abbrev pub ready_of : Inside → Ready
ready_of a = record { map = a.base.value.map; before = a.base.value.standing; turn = a.turn.value }

-- the version after the edits, the jobs, the replies to the edits, and the number of pairs that they changed
pub record HoldsEdited (a : Inside) : Type 0 where
  pub map : a.version.map ≡ a.base.value.map
  pub standing : a.version.standing ≡ after_turn a.base.value.map a.base.value.standing a.turn.value
  pub jobs : a.jobs ≡ jobs a.turn.value
  pub replies : a.replies.items ≡ lists_ahead a.turn.value (edits_told_in a.base.value.map a.base.value.standing a.turn.value)
  pub relabelled : HasRelabelled (length a.base.value.map.classes) (passes_of a.base.value) (passes_of a.version) a.relabelled
