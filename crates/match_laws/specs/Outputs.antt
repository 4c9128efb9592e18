-- What an output text is made of: the notes of requests, and the numbers of turns.
use Rattle.std.specs.Prelude.{ℕ, ◌≡◌, List, [], ◌∷◌, All, Some, None}
use Rattle.posts.specs.declared.notes.Note.{Note}
use Rattle.posts.specs.declared.notes.Report.{Report}
use Rattle.posts.specs.declared.posts.Post.{Post}
use Rattle.posts.specs.declared.posts.Request.{Request}
use Rattle.posts.specs.declared.replies.TurnReplies.{TurnReplies}
use Rattle.posts.specs.Maps.{Map}
use Rattle.posts.specs.Posts.{jobs}
use Rattle.turn_core.specs.Words.{Standing, bare, TellsNumbers}
use Rattle.turn_core.specs.Turns.{after_turn}
use Rattle.turn_core.specs.Notes.{IsNote}
use Rattle.script_text.specs.Script.{beginning, map_after, turns_of, reading}

-- the request has a note under a report, that of its answer
abbrev pub HasNote : Map → Standing → Report → Request → Type 0
HasNote m standing report request = (note : Note) × IsNote m standing report request note

-- The turn before which this stands can be told: each of its requests has its note on what stands after its edits, and there
-- are numbers of regions, edges, areas and changed pairs.
pub record CanTell (report : Report) (m : Map) (standing : Standing) (turn : List (List Post)) : Type 0 where
  pub notes : All (HasNote m (after_turn m standing turn) report) (jobs turn)
  pub numbers : (told : TurnReplies) × TellsNumbers m standing (after_turn m standing turn) told

-- the same of the turns of a journal, before which this stands
abbrev pub CanTellAll : Report → Map → Standing → List (List (List Post)) → Type 0
CanTellAll report m standing [] = Unit {0}
CanTellAll report m standing (turn ∷ journal) = CanTell report m standing turn × CanTellAll report m (after_turn m standing turn) journal

-- the same of the turns of an input, where it gives a map; without a map there are none
abbrev pub CanTellInput : Report → List ℕ → Type 0
CanTellInput report bytes = (m : Map) → map_after None (reading bytes beginning).items ≡ Some m
    → CanTellAll report m bare (turns_of (reading bytes beginning).items)
