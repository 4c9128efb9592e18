-- What is written for an input.
use Rattle.std.specs.Prelude.{ℕ, ◌≡◌, ◌+◌, ◌⊎◌, List, [], ◌∷◌, ◌++◌, take, Option, Some, None, ⊤}
use Rattle.io_edges.specs.Faults.{Rose}
use Rattle.posts.specs.declared.posts.Post.{Post}
use Rattle.posts.specs.declared.replies.TurnReplies.{TurnReplies}
use Rattle.posts.specs.Maps.{Map}
use Rattle.posts.specs.Posts.{jobs}
use Rattle.turn_core.specs.Words.{Standing, bare}
use Rattle.turn_core.specs.Turns.{after_turn, IsTurnTold, IsOneThread}
use Rattle.posts.specs.declared.notes.Note.{Note}
use Rattle.posts.specs.declared.notes.Report.{Report}
use Rattle.turn_core.specs.Notes.{AreNotes}
use Rattle.input_lines.specs.Lines.{full_lines}
use Rattle.script_text.specs.Script.{Item, begins, adds_base, ends_turn, map_after_item, Place, beginning, Stop, whole_input, too_long, bad_line, Ends, stuck_by, arrived, walk, reading}
use Rattle.answer_text.specs.Answers.{turn_text}
pub use Rattle.match_play.specs.Texts.{Said, unsaid, with_map, with_turn, IsTurnText, Says, Gives, IsText, stop_text, ends_text, IsOut}
use Rattle.answer_text.specs.Noted.{noted_text}
use Rattle.answer_text.specs.Summaries.{summary_text}
use Rattle.made_match.specs.Making.{made_map, made_journal}
use Rattle.pathserve.specs.declared.status.Status.{Status}
use Rattle.pathserve.specs.declared.status.Status.TheVariants.{Done, Usage, BadLine, ReadFault, WriteFault, NoMemory, TooLong}

-- the texts of turns, from one of this number on
abbrev pub turn_texts : ℕ → List TurnReplies → List ℕ
turn_texts number [] = []
turn_texts number (told ∷ others) = turn_text number told ++ turn_texts (number + 1) others

-- the notes of the requests of each turn of a journal, before which this stands
abbrev pub AreNotesInTurns : Map → Standing → Report → List (List (List Post)) → List (List Note) → Type 0
AreNotesInTurns m s report [] [] = Unit {0}
AreNotesInTurns m s report [] (notes ∷ lists) = ⊥
AreNotesInTurns m s report (turn ∷ journal) [] = ⊥
AreNotesInTurns m s report (turn ∷ journal) (notes ∷ lists) =
    AreNotes m (after_turn m s turn) report (jobs turn) notes × AreNotesInTurns m (after_turn m s turn) report journal lists

-- the texts of turns with their notes, from one of this number on
abbrev pub noted_texts : ℕ → List TurnReplies → List (List Note) → List ℕ
noted_texts number [] lists = []
noted_texts number (told ∷ others) [] = []
noted_texts number (told ∷ others) (notes ∷ lists) = noted_text number told notes ++ noted_texts (number + 1) others lists

-- the next piece: that of the next item, or that of the stop
abbrev pub IsPiece : Report → Said → List Item → Ends → List ℕ → Type 0
IsPiece report s [] ends piece = piece ≡ ends_text ends
IsPiece report s (item ∷ items) ends piece = (t : Said) × Says report s item piece t

-- a beginning of the output text: that of the first turns, and perhaps a part of the next piece
pub record IsBeginning (report : Report) (bytes out : List ℕ) : Type 0 where
  pub done : List Item
  pub rest : List Item
  pub items : (reading bytes beginning).items ≡ done ++ rest
  pub text : List ℕ
  pub state : Said
  pub gives : Gives report unsaid done text state
  pub part : (out ≡ text) ⊎ ((piece : List ℕ)
      × ((n : ℕ) × (IsPiece report state rest (reading bytes beginning).ends piece × (out ≡ text ++ take n piece))))

-- the text of the turns whose end line, with its newline, lies in the bytes taken, among which no line stops the input
pub record IsTakenText (report : Report) (bytes rest out : List ℕ) : Type 0 where
  pub taken : List ℕ
  pub took : bytes ≡ taken ++ rest
  pub items : List Item
  pub place : Place
  pub walked : walk (full_lines taken) beginning ≡ arrived items place
  pub text : IsText report items out

-- What a status says of a run: `bytes` are those left in the source at entry, `rest` those left at exit, `out` those written.
abbrev pub Replays : Report → List ℕ → List ℕ → List ℕ → Status → Type 0
Replays report bytes rest out Done = (rest ≡ []) × (((reading bytes beginning).ends ≡ stuck_by whole_input) × IsOut report bytes out)
Replays report bytes rest out Usage = ⊥
Replays report bytes rest out BadLine = (n : ℕ) × (((reading bytes beginning).ends ≡ stuck_by (bad_line n)) × IsOut report bytes out)
Replays report bytes rest out ReadFault = IsTakenText report bytes rest out × IsBeginning report bytes out
Replays report bytes rest out WriteFault = IsBeginning report bytes out
Replays report bytes rest out NoMemory = IsBeginning report bytes out
Replays report bytes rest out TooLong = (n : ℕ) × (((reading bytes beginning).ends ≡ stuck_by (too_long n)) × IsOut report bytes out)

-- the same, where the source tells its bytes and the sink keeps them
abbrev pub ReplaysTold : Report → Option (List ℕ) → Option (List ℕ) → Option (List ℕ) → Option (List ℕ) → Status → Type 0
ReplaysTold report None rest kept now status = ⊤
ReplaysTold report (Some bytes) None kept now status = ⊥
ReplaysTold report (Some bytes) (Some rest) None now status = ⊤
ReplaysTold report (Some bytes) (Some rest) (Some kept) None status = ⊥
ReplaysTold report (Some bytes) (Some rest) (Some kept) (Some now) status = (out : List ℕ) × ((now ≡ kept ++ out) × Replays report bytes rest out status)

-- the status that a stop has where no fault and no want of memory comes before it
abbrev pub stop_status : Ends → Status
stop_status (stuck_by (too_long n)) = TooLong
stop_status (stuck_by (bad_line n)) = BadLine
stop_status ends = Done

-- Where neither count rose, the status is that of the stop, or there was no memory.
-- Where one rose, a fault of the source or the sink may come before.
abbrev pub ComesByStop : ℕ → ℕ → ℕ → ℕ → Ends → Status → Type 0
ComesByStop reads_before reads_now writes_before writes_now ends status =
    (status ≡ stop_status ends) ⊎ ((status ≡ NoMemory)
    ⊎ (((status ≡ ReadFault) × Rose reads_before reads_now) ⊎ ((status ≡ WriteFault) × Rose writes_before writes_now)))

-- ---- matches made out of numbers

-- the summary of the match that a number makes: that of the replies of one thread
abbrev pub IsSummary : ℕ → List ℕ → Type 0
IsSummary seed text = (told : List TurnReplies) × (IsOneThread (made_map seed) (made_journal seed) told × (text ≡ summary_text told))

-- nothing, or the first bytes of the summary
abbrev pub IsSummaryBeginning : ℕ → List ℕ → Type 0
IsSummaryBeginning seed out = (out ≡ []) ⊎ ((text : List ℕ) × (IsSummary seed text × ((n : ℕ) × (out ≡ take n text))))

-- what a status says of a run that makes a match, where these bytes were written
abbrev pub Makes : ℕ → List ℕ → Status → Type 0
Makes seed out Done = IsSummary seed out
Makes seed out WriteFault = IsSummaryBeginning seed out
Makes seed out NoMemory = IsSummaryBeginning seed out
Makes seed out other = ⊥

-- the same, where the sink keeps its bytes
abbrev pub MakesTold : ℕ → Option (List ℕ) → Option (List ℕ) → Status → Type 0
MakesTold seed None now status = ⊤
MakesTold seed (Some kept) None status = ⊥
MakesTold seed (Some kept) (Some now) status = (out : List ℕ) × ((now ≡ kept ++ out) × Makes seed out status)

-- where the sink's count did not rise, all was written, or there was no memory
abbrev pub ComesByMaking : ℕ → ℕ → Status → Type 0
ComesByMaking writes_before writes_now status =
    (status ≡ Done) ⊎ ((status ≡ NoMemory) ⊎ ((status ≡ WriteFault) × Rose writes_before writes_now))
