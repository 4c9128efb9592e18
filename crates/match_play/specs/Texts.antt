-- What is written for the items of a script, and for its stop.
use Rattle.std.specs.Prelude.{ℕ, ◌≡◌, ◌+◌, List, [], ◌∷◌, ◌++◌, Option, Some, None}
use Rattle.posts.specs.declared.posts.Post.{Post}
use Rattle.posts.specs.declared.replies.TurnReplies.{TurnReplies}
use Rattle.posts.specs.declared.notes.Note.{Note}
use Rattle.posts.specs.declared.notes.Report.{Report}
use Rattle.posts.specs.Maps.{Map}
use Rattle.posts.specs.Posts.{jobs}
use Rattle.turn_core.specs.Words.{Standing, bare}
use Rattle.turn_core.specs.Turns.{after_turn, IsTurnTold}
use Rattle.turn_core.specs.Notes.{AreNotes}
use Rattle.script_text.specs.Script.{Item, ends_turn, map_after_item, beginning, Stop, bad_line, Ends, at_place, stuck_by, reading}
use Rattle.answer_text.specs.Answers.{bad_line_text}
use Rattle.answer_text.specs.Noted.{noted_text}

-- what the next answers rest on: the map so far, what stands on it, and how many turns were answered
pub record Said : Type 0 where
  pub map : Option Map
  pub standing : Standing
  pub turns : ℕ

abbrev pub unsaid : Said
unsaid = record { map = None; standing = bare; turns = 0 }

-- a part of the map was read
abbrev pub with_map : Said → Item → Said
with_map s item = record s { map = map_after_item s.map item }

-- a turn was answered
abbrev pub with_turn : Said → Map → List (List Post) → Said
with_turn s m posts = record s { standing = after_turn m s.standing posts; turns = s.turns + 1 }

-- The text of the turn of a number, before which this stands: that of the replies of one thread, with the turn's numbers,
-- and with the notes of the turn's requests on what stands after its edits.
abbrev pub IsTurnText : Report → Map → Standing → ℕ → List (List Post) → List ℕ → Type 0
IsTurnText report m standing turn posts text = (told : TurnReplies) × ((notes : List Note) × (IsTurnTold m standing posts told
    × (AreNotes m (after_turn m standing posts) report (jobs posts) notes × (text ≡ noted_text turn told notes))))

-- what is written for one item: for a turn the text of its answers, and nothing for a part of the map
abbrev pub Says : Report → Said → Item → List ℕ → Said → Type 0
Says report s (ends_turn posts) text t =
    (m : Map) × ((s.map ≡ Some m) × (IsTurnText report m s.standing (s.turns + 1) posts text × (t ≡ with_turn s m posts)))
Says report s item text t = (text ≡ []) × (t ≡ with_map s item)

-- what is written for items, one after another
abbrev pub Gives : Report → Said → List Item → List ℕ → Said → Type 0
Gives report s [] text t = (text ≡ []) × (s ≡ t)
Gives report s (item ∷ items) text t = (piece : List ℕ) × ((mid : Said) × ((more : List ℕ)
    × (Says report s item piece mid × (Gives report mid items more t × (text ≡ piece ++ more)))))

abbrev pub IsText : Report → List Item → List ℕ → Type 0
IsText report items text = (t : Said) × Gives report unsaid items text t

-- what is written for a stop: a bad line is named
abbrev pub stop_text : Stop → List ℕ
stop_text (bad_line n) = bad_line_text n
stop_text stop = []

abbrev pub ends_text : Ends → List ℕ
ends_text (at_place p) = []
ends_text (stuck_by stop) = stop_text stop

-- the output text of an input: that of its turns, then that of its stop
abbrev pub IsOut : Report → List ℕ → List ℕ → Type 0
IsOut report bytes out =
    (text : List ℕ) × (IsText report (reading bytes beginning).items text × (out ≡ text ++ ends_text (reading bytes beginning).ends))
