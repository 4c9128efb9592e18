-- What a match has been fed with, what it has told, and how the one goes with the other.
use Rattle.std.specs.Prelude.{ℕ, ◌≡◌, List, [], ◌∷◌, ◌++◌, Bool, true, false, IsSome, IsTrue, Option, Some, None, Result, Ok, Err, ⊤}
use Rattle.posts.specs.declared.notes.Report.{Report}
use Rattle.turn_core.specs.Words.{MapState}
use Rattle.input_lines.specs.Lines.{full_lines}
use Rattle.script_text.specs.Script.{Item, Place, beginning, Stop, whole_input, too_long, bad_line, stuck_by, arrived, chain, walk, reading}
use Rattle.script_text.specs.declared.causes.Cause.{Cause}
use Rattle.script_text.specs.Causes.{stop_cause}
use Rattle.script_text.specs.Reader.{Held, unread, UsesLines, held_cause, stuck_after}
use Rattle.script_text.specs.Pushed.{item_of}
use Rattle.match_play.specs.declared.states.ScriptStop.{ScriptStop}
use Rattle.match_play.specs.declared.states.ScriptStop.TheVariants.{BadLine, TooLong}
use Rattle.match_play.specs.declared.states.NextItem.{NextItem}
use Rattle.match_play.specs.declared.states.NextItem.TheVariants as next_item
use Rattle.match_play.specs.declared.states.MatchState.{MatchState}
use Rattle.match_play.specs.declared.faults.MatchFault.{MatchFault}
use Rattle.match_play.specs.declared.faults.MatchFault.TheVariants as fault
use Rattle.match_play.specs.Texts.{Said, unsaid, Gives, IsText, stop_text, IsOut}
pub use Rattle.match_play.specs.Grounds.{said_of}

-- a stop, as the reading of an input names it
abbrev pub stop_of : ScriptStop → Stop
stop_of (BadLine n) = bad_line n
stop_of (TooLong n) = too_long n

-- Behind these items the reading of the bytes goes on with what is held.
pub record GoesOnBehind (held : Held) (bytes : List ℕ) (items : List Item) : Type 0 where
  pub same : reading bytes beginning ≡ chain (arrived items held.place) (λ q. reading held.bytes q)
  pub cause : stop_cause bytes beginning ≡ stop_cause held.bytes held.place

-- These items were read. While the script may go on they are those of lines that were used; of a script that has ended, its
-- reading goes on behind them with what is held.
abbrev pub ReadsItems : Bool → Held → List ℕ → List Item → Type 0
ReadsItems false held fed items = UsesLines unread held fed items
ReadsItems true held fed items = GoesOnBehind held fed items

-- a bad line is bad for the cause of what is held
abbrev pub HasCause : Stop → Held → List ℕ → Type 0
HasCause whole_input held bytes = ⊤
HasCause (too_long n) held bytes = ⊤
HasCause (bad_line n) held bytes = stop_cause bytes beginning ≡ held_cause held

-- Behind these items an input of these bytes stops so.
pub record StopsSo (held : Held) (bytes : List ℕ) (items : List Item) (stop : Stop) : Type 0 where
  pub stuck : reading bytes beginning ≡ stuck_after items stop
  pub cause : HasCause stop held bytes

-- The same of a script: whatever follows, or where it has ended, with these bytes.
abbrev pub StopsBehind : Bool → Held → List ℕ → List Item → Stop → Type 0
StopsBehind false held fed items stop = (more : List ℕ) → StopsSo held (fed ++ more) items stop
StopsBehind true held fed items stop = StopsSo held fed items stop

-- What was read, where these items were told: the items, and one more where one waits; or a script that stops behind them.
abbrev pub HasRead : Bool → Held → List ℕ → List Item → NextItem → Type 0
HasRead ended held fed items next_item.Lines = ReadsItems ended held fed items
HasRead ended held fed items (next_item.Item item) = ReadsItems ended held fed (items ++ item_of item ∷ [])
HasRead ended held fed items (next_item.Stop stop) = StopsBehind ended held fed items (stop_of stop)
HasRead ended held fed items (next_item.Nothing stop) = StopsBehind ended held fed items (stop_of stop)
HasRead ended held fed items next_item.Whole = StopsBehind ended held fed items whole_input

-- a bad line has a cause, and one that is too long has none
abbrev pub cause_by : ScriptStop → Option Cause → Option Cause
cause_by (BadLine n) why = why
cause_by (TooLong n) why = None

-- the cause where a stop was met
abbrev pub cause_at : NextItem → Option Cause → Option Cause
cause_at next_item.Lines why = None
cause_at (next_item.Item item) why = None
cause_at (next_item.Stop stop) why = cause_by stop why
cause_at (next_item.Nothing stop) why = cause_by stop why
cause_at next_item.Whole why = None

-- why the line is bad at which the match has stopped, where it has met a bad line: the cause of what it holds
abbrev pub bad_cause : MatchState → Option Cause
bad_cause m = cause_at m.next_item (held_cause m.script)

-- A match that refuses a bad line has its cause. It has none where it has not refused, or for a line that is too long.
abbrev pub TellsWhy : Result (Unit {0}) MatchFault → Option Cause → Type 0
TellsWhy (Ok done) why = why ≡ None
TellsWhy (Err (fault.BadLine n)) why = IsSome why
TellsWhy (Err (fault.TooLong n)) why = why ≡ None
TellsWhy (Err fault.Ended) why = ⊤
TellsWhy (Err fault.NoMemory) why = ⊤

-- what was told of a stop
abbrev pub told_stop : NextItem → List ℕ
told_stop next_item.Lines = []
told_stop (next_item.Item item) = []
told_stop (next_item.Stop stop) = []
told_stop (next_item.Nothing stop) = stop_text (stop_of stop)
told_stop next_item.Whole = stop_text whole_input

-- all was told that the script gives
abbrev pub IsTold : NextItem → Type 0
IsTold next_item.Lines = ⊥
IsTold (next_item.Item item) = ⊥
IsTold (next_item.Stop stop) = ⊥
IsTold (next_item.Nothing stop) = ⊤
IsTold next_item.Whole = ⊤

-- the script has ended, and all was told
abbrev pub IsOver : MatchState → Type 0
IsOver m = IsTrue m.ended × IsTold m.next_item

-- The match was fed with these bytes since it was opened, and has told this text in all.
pub record HasPlayed (m : MatchState) (fed told : List ℕ) : Type 0 where
  pub items : List Item
  pub text : List ℕ
  pub read : HasRead m.ended m.script fed items m.next_item
  pub gives : Gives m.report unsaid items text (said_of m.progress)
  pub all : told ≡ text ++ told_stop m.next_item

-- ---- calls

-- All whole lines were played: the text is that of what they give.
pub record IsLinesText (report : Report) (fed told : List ℕ) : Type 0 where
  pub items : List Item
  pub place : Place
  pub walked : walk (full_lines fed) beginning ≡ arrived items place
  pub text : IsText report items told

-- The script stops so, whatever comes behind these bytes, and the text is its output text.
pub record IsStopText (report : Report) (stop : Stop) (fed told : List ℕ) : Type 0 where
  pub stuck : (more : List ℕ) → (reading (fed ++ more) beginning).ends ≡ stuck_by stop
  pub out : (more : List ℕ) → IsOut report (fed ++ more) told

-- what an answer says of all that was fed and told
abbrev pub FeedTold : Report → Result (Unit {0}) MatchFault → List ℕ → List ℕ → Type 0
FeedTold report (Ok done) fed told = IsLinesText report fed told
FeedTold report (Err (fault.BadLine n)) fed told = IsStopText report (bad_line n) fed told
FeedTold report (Err (fault.TooLong n)) fed told = IsStopText report (too_long n) fed told
FeedTold report (Err fault.Ended) fed told = ⊤
FeedTold report (Err fault.NoMemory) fed told = ⊤

-- The script of exactly these bytes stops so, and the text is its output text.
pub record IsWholeText (report : Report) (stop : Stop) (fed told : List ℕ) : Type 0 where
  pub ends : (reading fed beginning).ends ≡ stuck_by stop
  pub out : IsOut report fed told

-- the same of a script that has ended
abbrev pub FinishTold : Report → Result (Unit {0}) MatchFault → List ℕ → List ℕ → Type 0
FinishTold report (Ok done) fed told = IsWholeText report whole_input fed told
FinishTold report (Err (fault.BadLine n)) fed told = IsWholeText report (bad_line n) fed told
FinishTold report (Err (fault.TooLong n)) fed told = IsWholeText report (too_long n) fed told
FinishTold report (Err fault.Ended) fed told = IsOut report fed told
FinishTold report (Err fault.NoMemory) fed told = ⊤

-- Of a piece, from which what is left was not taken: its bytes were fed, and text was told, which waits.
pub record Plays (old new : MatchState) (piece left : List ℕ) : Type 0 where
  pub taken : List ℕ
  pub took : piece ≡ taken ++ left
  pub text : List ℕ
  pub waits : new.waiting ≡ old.waiting ++ text
  pub report : new.report ≡ old.report
  pub played : (fed told : List ℕ) → HasPlayed old fed told → HasPlayed new (fed ++ taken) (told ++ text)

-- the same with what the answer says
pub record FeedPlays (old new : MatchState) (piece left : List ℕ) (result : Result (Unit {0}) MatchFault) : Type 0 where
  pub plays : Plays old new piece left
  pub told : (fed told : List ℕ) → HasPlayed old fed told → FeedTold old.report result (fed ++ plays.taken) (told ++ plays.text)

-- Of the end of a script: text was told, which waits.
pub record FinishPlays (old new : MatchState) (result : Result (Unit {0}) MatchFault) : Type 0 where
  pub text : List ℕ
  pub waits : new.waiting ≡ old.waiting ++ text
  pub report : new.report ≡ old.report
  pub played : (fed told : List ℕ) → HasPlayed old fed told → HasPlayed new fed (told ++ text)
  pub told : (fed told : List ℕ) → HasPlayed old fed told → FinishTold old.report result fed (told ++ text)

-- nothing is left of a piece, unless there was no memory or the script has ended
abbrev pub TakesAll : List ℕ → Result (Unit {0}) MatchFault → Type 0
TakesAll left (Ok done) = left ≡ []
TakesAll left (Err (fault.BadLine n)) = left ≡ []
TakesAll left (Err (fault.TooLong n)) = left ≡ []
TakesAll left (Err fault.Ended) = ⊤
TakesAll left (Err fault.NoMemory) = ⊤

-- Nothing waits, and else the match is as it was.
pub record HasTaken (old new : MatchState) : Type 0 where
  pub same : new ≡ record old { waiting = [] }
  pub waits : new.waiting ≡ []
  pub report : new.report ≡ old.report
  pub played : (fed told : List ℕ) → HasPlayed old fed told → HasPlayed new fed told

-- a version of the map with what stands on it; there is none where the map has not come
abbrev pub IsView : Said → Option MapState → Type 0
IsView s None = s.map ≡ None
IsView s (Some version) = (s.map ≡ Some version.map) × (version.standing ≡ s.standing)
