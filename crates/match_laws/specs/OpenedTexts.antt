-- Output texts of matches that go on.
use Rattle.std.specs.Prelude.{ℕ, ◌≡◌, ◌+◌, List, ◌++◌, length, Some, None}
use Rattle.posts.specs.declared.notes.Note.{Note}
use Rattle.posts.specs.declared.notes.Report.{Report}
use Rattle.posts.specs.declared.posts.Post.{Post}
use Rattle.posts.specs.declared.replies.TurnReplies.{TurnReplies}
use Rattle.posts.specs.Maps.{Map}
use Rattle.turn_core.specs.Words.{bare}
use Rattle.turn_core.specs.Turns.{IsOneThread}
use Rattle.script_text.specs.Script.{beginning, map_after, turns_of, reading}
use Rattle.match_play.specs.Texts.{IsText}
use Rattle.pathserve.specs.Output.{AreNotesInTurns, noted_texts}

-- the text of the turns of an input that gives this map and these turns
pub record IsMatchText (report : Report) (m : Map) (turns : List (List (List Post))) (text : List ℕ) : Type 0 where
  pub bytes : List ℕ
  pub on_map : map_after None (reading bytes beginning).items ≡ Some m
  pub are_turns : turns_of (reading bytes beginning).items ≡ turns
  pub is_text : IsText report (reading bytes beginning).items text

-- The text is that of the turns of a journal, and then that of further turns, to which these are the replies and the notes.
-- The further turns are numbered on from those of the journal.
pub record GoesOnWith (report : Report) (m : Map) (journal : List (List (List Post))) (further : List TurnReplies) (notes : List (List Note))
    (text : List ℕ) : Type 0 where
  pub told : List TurnReplies
  pub lists : List (List Note)
  pub one_thread : IsOneThread m journal told
  pub noted : AreNotesInTurns m bare report journal lists
  pub parts : text ≡ noted_texts 1 told lists ++ noted_texts (length journal + 1) further notes
