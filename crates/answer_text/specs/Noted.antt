-- The text of a turn with what is told beside its answers. The notes stand in a list, one for each answer to a request,
-- caller by caller and post by post.
use Rattle.std.specs.Prelude.{ℕ, ◌+◌, List, [], ◌∷◌, ◌++◌, Option, Some, None, length, map, codes, decimal}
use Rattle.nav_types.specs.declared.cells.Cell.{Cell}
use Rattle.nav_types.specs.declared.directions.Dir.{Dir}
use Rattle.nav_types.specs.declared.directions.Dir.TheVariants.{N, E, S, W, NE, SE, SW, NW}
use Rattle.posts.specs.declared.notes.FlowLine.{FlowLine}
use Rattle.posts.specs.declared.notes.Note.{Note}
use Rattle.posts.specs.declared.notes.Note.TheVariants.{Nothing, Opened, Flow, Smoothed}
use Rattle.posts.specs.declared.replies.Reply.{Reply}
use Rattle.posts.specs.declared.replies.Reply.TheVariants.{Edit as Edited, Answer as Answered}
use Rattle.posts.specs.declared.replies.TurnReplies.{TurnReplies}
use Rattle.answer_text.specs.Answers.{line_of, reply_line, turn_line, waypoint_text}

-- the name of a direction, and `-` for none
abbrev pub step_word : Option Dir → List ℕ
step_word None = codes "-"
step_word (Some N) = codes "N"
step_word (Some E) = codes "E"
step_word (Some S) = codes "S"
step_word (Some W) = codes "W"
step_word (Some NE) = codes "NE"
step_word (Some SE) = codes "SE"
step_word (Some SW) = codes "SW"
step_word (Some NW) = codes "NW"

-- a flow field: the step to take at the path's start, how many cells the field has, the greatest of their distances, and
-- the sum of these
abbrev pub flow_words : FlowLine → List (List ℕ)
flow_words line = codes "flow" ∷ step_word line.first ∷ decimal line.summary.cells ∷ decimal line.summary.farthest
    ∷ decimal line.summary.sum ∷ []

-- smoothed waypoints: how many there are, and these
abbrev pub smooth_words : List Cell → List (List ℕ)
smooth_words points = codes "smooth" ∷ decimal (length points) ∷ map waypoint_text points

-- what a note says
abbrev pub note_words : Note → List (List ℕ)
note_words Nothing = []
note_words (Opened opened) = codes "opened" ∷ decimal opened ∷ []
note_words (Flow line) = flow_words line
note_words (Smoothed points) = smooth_words points

-- the line of a note: the caller's number, that of the post among the caller's posts of the turn, and what the note says
unfoldable pub note_line : ℕ → ℕ → Note → List ℕ
note_line caller post note = line_of (decimal caller ∷ decimal post ∷ note_words note)

-- what is written of a note: nothing where it tells nothing, else its line
abbrev pub note_text : ℕ → ℕ → Note → List ℕ
note_text caller post Nothing = []
note_text caller post note = note_line caller post note

-- what is written of the next of the notes that are left; where none is left nothing is told
abbrev pub next_text : ℕ → ℕ → List Note → List ℕ
next_text caller post [] = []
next_text caller post (note ∷ notes) = note_text caller post note

-- the notes that are left after a reply: an answer to a request takes the next one, and the reply to an edit none
abbrev pub notes_after : Reply → List Note → List Note
notes_after (Answered answer) (note ∷ notes) = notes
notes_after reply notes = notes

-- the notes that are left after replies
abbrev pub notes_left : List Reply → List Note → List Note
notes_left [] notes = notes
notes_left (reply ∷ replies) notes = notes_left replies (notes_after reply notes)

-- what stands behind the line of a reply: what is written of the note of an answer
abbrev pub behind_reply : ℕ → ℕ → Reply → List Note → List ℕ
behind_reply caller post (Edited reply) notes = []
behind_reply caller post (Answered answer) notes = next_text caller post notes

-- the lines of one caller's replies, of which the first answers the post of this number, where these notes are left
abbrev pub noted_lines : ℕ → ℕ → List Reply → List Note → List ℕ
noted_lines caller post [] notes = []
noted_lines caller post (reply ∷ replies) notes = reply_line caller post reply
    ++ (behind_reply caller post reply notes ++ noted_lines caller (post + 1) replies (notes_after reply notes))

-- the lines of the replies to callers, of whom the first has this number
abbrev pub noted_callers : ℕ → List (List Reply) → List Note → List ℕ
noted_callers caller [] notes = []
noted_callers caller (replies ∷ rest) notes =
    noted_lines caller 0 replies notes ++ noted_callers (caller + 1) rest (notes_left replies notes)

-- the text of a turn with its notes: its turn line, and then the lines of caller 0, of caller 1 and so on
abbrev pub noted_text : ℕ → TurnReplies → List Note → List ℕ
noted_text turn told notes = turn_line turn told.tallies told.relabelled ++ noted_callers 0 told.replies notes
