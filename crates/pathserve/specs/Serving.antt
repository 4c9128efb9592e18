-- What is written for an input that is served: its callers post by themselves, and a journal is made out of what came.
use Rattle.std.specs.Prelude.{ℕ, ◌≡◌, ◌<◌, ◌⊎◌, List, [], ◌++◌, All, take, Option, Some, None, ⊤}
use Rattle.posts.specs.declared.posts.Post.{Post}
use Rattle.posts.specs.declared.replies.Reply.{Reply}
use Rattle.posts.specs.declared.replies.TurnReplies.{TurnReplies}
use Rattle.posts.specs.Maps.{Map}
use Rattle.posts.specs.Callers.{of_caller}
use Rattle.posts.specs.Posts.{post_count}
use Rattle.turn_core.specs.Turns.{IsOneThread}
use Rattle.path_service.specs.machine.Facts.{HaveLists}
use Rattle.request_lanes.specs.Ends.{Closing}
use Rattle.path_service.specs.declared.closing.ClosedCaller.{ClosedCaller}
use Rattle.input_lines.specs.Lines.{full_lines}
use Rattle.script_text.specs.Script.{Item, Place, beginning, Ends, stuck_by, whole_input, too_long, bad_line, arrived, map_after, turns_of, walk, reading}
use Rattle.script_text.specs.ReadsBack.{canon_script}
use Rattle.answer_text.specs.Answers.{bad_line_text}
use Rattle.pathserve.specs.Output.{turn_texts}
use Rattle.pathserve.specs.declared.status.Status.{Status}
use Rattle.pathserve.specs.declared.status.Status.TheVariants.{Done, Usage, BadLine, ReadFault, WriteFault, NoMemory, TooLong}

-- ---- journals of callers that post by themselves

-- somebody posts in the turn
abbrev pub HasPost : List (List Post) → Type 0
HasPost turn = 0 < post_count turn

-- A journal of so many callers, of whom each has posts of its own: these are its posts in the journal, turn after turn, in
-- their order, and somebody posts in each turn.
pub record IsJournalOf (callers : ℕ) (own : ℕ → List Post) (journal : List (List (List Post))) : Type 0 where
  pub wide : HaveLists callers journal
  pub posts : (caller : ℕ) → of_caller caller journal ≡ own caller
  pub some : All HasPost journal

-- a lane on which these posts were put, all of which were taken
abbrev pub all_taken : List Post → Closing Post
all_taken posts = record { posted = posts; taken = posts }

abbrev pub post_lane : ClosedCaller → Closing Post
post_lane caller = caller.posts_left

-- all that was sent to a caller, and all that it collected
abbrev pub sent_to : ClosedCaller → List Reply
sent_to caller = caller.replies_left.posted

abbrev pub collected_by : ClosedCaller → List Reply
collected_by caller = caller.replies_left.taken

-- ---- what is written

-- The text that a journal on a map gives: its canonical script, and then the answers of one thread to it.
abbrev pub journal_text : Map → List (List (List Post)) → List TurnReplies → List ℕ
journal_text m journal told = canon_script m journal ++ turn_texts 1 told

-- A text for an input that is whole: that of a journal of its callers on its map.
pub record IsServed (bytes out : List ℕ) : Type 0 where
  pub map : Map
  pub on_map : map_after None (reading bytes beginning).items ≡ Some map
  pub journal : List (List (List Post))
  pub of_callers : IsJournalOf map.callers (λ caller. of_caller caller (turns_of (reading bytes beginning).items)) journal
  pub told : List TurnReplies
  pub one_thread : IsOneThread map journal told
  pub text : out ≡ journal_text map journal told

-- A text for an input that stops so. Of a bad line the number is all that is written, and of a line that is too long nothing.
abbrev pub IsServedTo : List ℕ → Ends → List ℕ → Type 0
IsServedTo bytes (stuck_by whole_input) text = IsServed bytes text
IsServedTo bytes (stuck_by (bad_line n)) text = text ≡ bad_line_text n
IsServedTo bytes ends text = text ≡ []

-- nothing, or the first bytes of such a text
abbrev pub IsServedBeginning : List ℕ → List ℕ → Type 0
IsServedBeginning bytes out = (out ≡ []) ⊎ ((text : List ℕ)
    × (IsServedTo bytes (reading bytes beginning).ends text × ((n : ℕ) × (out ≡ take n text))))

-- no line among the bytes taken stops the input
pub record TakesNoStop (bytes rest : List ℕ) : Type 0 where
  pub taken : List ℕ
  pub took : bytes ≡ taken ++ rest
  pub items : List Item
  pub place : Place
  pub walked : walk (full_lines taken) beginning ≡ arrived items place

-- What a status says of a script that is served: `bytes` are those left in the source at entry, `rest` those left at exit,
-- `out` those written.
abbrev pub Serves : List ℕ → List ℕ → List ℕ → Status → Type 0
Serves bytes rest out Done = (rest ≡ []) × (((reading bytes beginning).ends ≡ stuck_by whole_input) × IsServed bytes out)
Serves bytes rest out Usage = ⊥
Serves bytes rest out BadLine = (n : ℕ) × (((reading bytes beginning).ends ≡ stuck_by (bad_line n)) × (out ≡ bad_line_text n))
Serves bytes rest out ReadFault = TakesNoStop bytes rest × (out ≡ [])
Serves bytes rest out WriteFault = IsServedBeginning bytes out
Serves bytes rest out NoMemory = IsServedBeginning bytes out
Serves bytes rest out TooLong = (n : ℕ) × (((reading bytes beginning).ends ≡ stuck_by (too_long n)) × (out ≡ []))

-- the same, where the source tells its bytes and the sink keeps them
abbrev pub ServesTold : Option (List ℕ) → Option (List ℕ) → Option (List ℕ) → Option (List ℕ) → Status → Type 0
ServesTold None rest kept now status = ⊤
ServesTold (Some bytes) None kept now status = ⊥
ServesTold (Some bytes) (Some rest) None now status = ⊤
ServesTold (Some bytes) (Some rest) (Some kept) None status = ⊥
ServesTold (Some bytes) (Some rest) (Some kept) (Some now) status = (out : List ℕ) × ((now ≡ kept ++ out) × Serves bytes rest out status)
