-- What a line gives in its place, as the answers to it say.
use Rattle.std.specs.Prelude.{ℕ, ◌≡◌, ◌+◌, ◌≤◌, ◌==◌, ◌++◌, ◌⊎◌, if◌then◌else◌, List, [], ◌∷◌, length, Bool, false, All, IsFalse, IsTrue, Option, Some, None, option_and_then, Result, Ok, Err, ⊤}
use Rattle.posts.specs.declared.posts.Post.{Post}
use Rattle.posts.specs.Maps.{Map}
use Rattle.posts.specs.Posts.{post_count}
use Rattle.script_text.specs.declared.faults.ScriptFault.{ScriptFault}
use Rattle.script_text.specs.declared.faults.ScriptFault.TheVariants.{BadLine, TooLong, ReadFault, NoMemory}
use Rattle.nav_types.specs.declared.cells.Rect.{Rect}
use Rattle.nav_types.specs.declared.cells.Size.{Size}
use Rattle.nav_types.specs.Cells.{IsRectInside}
use Rattle.nav_types.specs.declared.limits.TheConstants.{MAX_INPUT_BYTES}
use Rattle.script_text.specs.Forms.{base_of}
use Rattle.script_text.specs.declared.parts.Part.{Part}
use Rattle.script_text.specs.declared.parts.Part.TheVariants.{BeforeMap, InBase, InTurns}
use Rattle.script_text.specs.Script.{Place, Walk, begins, adds_base, ends_turn, whole_input, too_long, bad_line, arrived, stuck, reading_of, is_long, accept, reading}
use Rattle.script_text.specs.declared.items.ScriptItem.{ScriptItem}
use Rattle.script_text.specs.declared.items.ScriptItem.TheVariants.{Turn}
use Rattle.script_text.specs.declared.causes.Cause.{Cause}
use Rattle.script_text.specs.Causes.{cause, end_cause}
use Rattle.script_text.specs.Pushed.{item_of}
use Rattle.script_text.specs.Reader.{Held, GoesOn, HaveLinesAt, HoldsRefused, StopsAtBad, callers_of, taken_bytes}
use Rattle.input_lines.specs.Held.{HeldLine, Taken, bytes_of}
use Rattle.input_lines.specs.Lines.{full_lines}

-- base lines may stand here
abbrev pub IsBase : Part → Type 0
IsBase BeforeMap = ⊥
IsBase (InBase rules) = ⊤
IsBase (InTurns rules) = ⊥

-- among the lines of turns, where no base line may stand
abbrev pub IsInTurns : Part → Type 0
IsInTurns BeforeMap = ⊥
IsInTurns (InBase rules) = ⊥
IsInTurns (InTurns rules) = ⊤

-- the rectangles lie inside the map
abbrev pub IsInsideAt : Part → List (Rect × ℕ) → Type 0
IsInsideAt BeforeMap rects = ⊥
IsInsideAt (InBase rules) rects = All (λ (entry : Rect × ℕ). IsRectInside rules.size entry.0) rects
IsInsideAt (InTurns rules) rects = ⊥

-- the counts of a place keep within the input's limit, and there is one list of posts for each caller
pub record IsReadTo (p : Place) : Type 0 where
  pub few_bytes : p.bytes ≤ MAX_INPUT_BYTES
  pub few_lines : p.lines ≤ p.bytes
  pub few_turns : p.turns ≤ p.lines
  pub lists : length p.posts ≡ callers_of p.part

-- where a line is bad, the place is that which has counted it, and the number that of the line
abbrev pub IsBadAt : Place → Place → ScriptFault → Type 0
IsBadAt new counted (BadLine n) = (new ≡ counted) × (n ≡ counted.lines)
IsBadAt new counted (TooLong n) = ⊤
IsBadAt new counted ReadFault = ⊤
IsBadAt new counted NoMemory = ⊤

-- the walk is stuck as the refusal says
abbrev pub IsStuckBy : Walk → ScriptFault → Type 0
IsStuckBy w (BadLine n) = w ≡ stuck (bad_line n)
IsStuckBy w (TooLong n) = w ≡ stuck (too_long n)
IsStuckBy w ReadFault = ⊥
IsStuckBy w NoMemory = ⊤

-- the input is whole, or the walk is stuck as the refusal says
abbrev pub Stops : Walk → Result ⊤ ScriptFault → Type 0
Stops w (Ok u) = w ≡ stuck whole_input
Stops w (Err fault) = IsStuckBy w fault

-- the walk gives the turn of the answer, or none, and arrives; or it is stuck as the refusal says
abbrev pub GivesTurn : Walk → Place → Result (Option (List (List Post))) ScriptFault → Type 0
GivesTurn w place (Ok (Some posts)) = w ≡ arrived (ends_turn posts ∷ []) place
GivesTurn w place (Ok None) = w ≡ arrived [] place
GivesTurn w place (Err fault) = IsStuckBy w fault

-- the walk begins the map of the answer and arrives; or it is stuck as the refusal says
abbrev pub BeginsMap : Walk → Place → Result Map ScriptFault → Type 0
BeginsMap w place (Ok m) = w ≡ arrived (begins m ∷ []) place
BeginsMap w place (Err fault) = IsStuckBy w fault

-- the line has no reading that is a base line on a map of this size
abbrev pub IsNoBaseLine : Size → List ℕ → Type 0
IsNoBaseLine size line = option_and_then (base_of size) (reading_of line) ≡ None

-- the same, where base lines may stand
abbrev pub IsNoBaseAt : Part → List ℕ → Type 0
IsNoBaseAt BeforeMap line = ⊤
IsNoBaseAt (InBase rules) line = IsNoBaseLine rules.size line
IsNoBaseAt (InTurns rules) line = ⊤

-- the line is within the limits and no base line, and nothing changed
pub record LeavesLine (old new : Place) (size : ℕ) (line : List ℕ) : Type 0 where
  pub same : new ≡ old
  pub short : IsFalse (is_long old size line)
  pub no_base : IsNoBaseAt old.part line

-- the walk adds the rectangles of a base line to the map and arrives; or the line is none; or the walk is stuck
abbrev pub AddsBase : Place → Place → ℕ → List ℕ → Result (Option (List (Rect × ℕ))) ScriptFault → Type 0
AddsBase old new size line (Ok (Some rects)) = accept size line old ≡ arrived (adds_base rects ∷ []) new
AddsBase old new size line (Ok None) = LeavesLine old new size line
AddsBase old new size line (Err (TooLong n)) = accept size line old ≡ stuck (too_long n)
AddsBase old new size line (Err NoMemory) = ⊤
AddsBase old new size line (Err ReadFault) = ⊥
AddsBase old new size line (Err (BadLine n)) = ⊥

-- a post came to the posts of the turn; or the turn has them all, and none is left
abbrev pub CountsPosts : List (List Post) → List (List Post) → Option (List (List Post)) → Type 0
CountsPosts old new None = post_count new ≡ post_count old + 1
CountsPosts old new (Some posts) = (posts ≡ old) × (post_count new ≡ 0)

-- what a reader holds at a place, with the line that it holds
abbrev pub held_at : Place → HeldLine → Held
held_at place h = record { place = place; bytes = bytes_of h; ended = h.rest.ended; over = false; failed = false }

-- the walk gives the item of the answer, or none, and arrives; or it is stuck as the refusal says
abbrev pub GivesItem : Walk → Place → Result (Option ScriptItem) ScriptFault → Type 0
GivesItem w place (Ok (Some item)) = w ≡ arrived (item_of item ∷ []) place
GivesItem w place (Ok None) = w ≡ arrived [] place
GivesItem w place (Err fault) = IsStuckBy w fault

-- what a line of a turn gives as an item
abbrev pub turn_item : Result (Option (List (List Post))) ScriptFault → Result (Option ScriptItem) ScriptFault
turn_item (Ok (Some posts)) = Ok (Some (Turn posts))
turn_item (Ok None) = Ok None
turn_item (Err fault) = Err fault

-- why what is held is refused, by how many bytes are held and their first line
abbrev pub cause_of_held : Place → ℕ → List ℕ → Option Cause
cause_of_held p held line = if held == 0 then end_cause p.part p.posts else cause p.part (p.turns + 1) line

-- there are no more posts than bytes
abbrev pub HasFewerPosts : Place → Type 0
HasFewerPosts p = post_count p.posts ≤ p.bytes

-- nothing is held behind the line, and while the script was not refused, each post so far has a line in its version, and
-- bytes of its own
pub record IsPushedTo (p : Place) (h : HeldLine) (failed : Bool) : Type 0 where
  pub behind : h.rest ≡ record { bytes = []; ended = false }
  pub have : IsFalse failed → HaveLinesAt p.part p.posts
  pub few : IsFalse failed → HasFewerPosts p

-- an input that ends here is whole, and gives nothing more; or the walk is stuck as the refusal says
abbrev pub EndsHere : Walk → Result (Option ScriptItem) ScriptFault → Type 0
EndsHere w (Ok None) = w ≡ stuck whole_input
EndsHere w (Ok (Some item)) = ⊥
EndsHere w (Err fault) = IsStuckBy w fault

-- ---- a source, item by item

-- what a reader holds: what its script holds, and the bytes that were taken behind that
abbrev pub held_with : Held → Taken → Held
held_with script taken = record { place = script.place; bytes = script.bytes ++ taken.bytes; ended = taken.ended; over = false; failed = false }

-- the bytes that are held lie in the script, or behind it
abbrev pub IsApart : Held → Taken → Type 0
IsApart script taken = (script.bytes ≡ []) ⊎ (taken.bytes ≡ [])

-- A reader that may be called: the script was not refused, its end was told to it where it was met, and nothing was taken
-- behind the end.
pub record IsReadable (script : Held) (taken : Taken) : Type 0 where
  pub going : IsFalse script.failed
  pub same_end : script.ended ≡ taken.ended
  pub at_end : IsTrue taken.ended → taken.bytes ≡ []

-- What an answer to what was taken says, where these bytes are left in the source: a line gave an item, or none did, or a
-- line was refused.
abbrev pub TakenAnswers : Held → Held → Result (Option ScriptItem) ScriptFault → List ℕ → Type 0
TakenAnswers old new (Ok (Some item)) left = GoesOn old new left left (item_of item ∷ [])
TakenAnswers old new (Ok None) left = GoesOn old new left left []
TakenAnswers old new (Err (BadLine n)) left = StopsAtBad old new left [] n
TakenAnswers old new (Err (TooLong n)) left = reading (old.bytes ++ left) old.place ≡ stuck (too_long n)
TakenAnswers old new (Err ReadFault) left = ⊥
TakenAnswers old new (Err NoMemory) left = ⊤

-- where what was taken was pushed and gave no item, all of it was, and no whole line is held
abbrev pub IsUsedWhere : Held → Taken → Result (Option ScriptItem) ScriptFault → Type 0
IsUsedWhere script taken (Ok (Some item)) = ⊤
IsUsedWhere script taken (Ok None) = (taken.bytes ≡ []) × (full_lines script.bytes ≡ [])
IsUsedWhere script taken (Err fault) = ⊤

-- What was taken was pushed, up to the first line that gives something: no byte is lost.
pub record PushesOn (old new : Held) (taken left : Taken) (next : Option ScriptItem) : Type 0 where
  pub told : (more : List ℕ) → TakenAnswers (held_with old taken) (held_with new left) (Ok next) more
  pub used : IsUsedWhere new left (Ok next)
  pub apart : IsApart new left
  pub count : taken_bytes (held_with new left) ≡ taken_bytes (held_with old taken)
  pub unmet : IsFalse left.ended

-- The script refused what was taken, and nothing is left of it.
pub record PushRefused (old new : Held) (taken left : Taken) (fault : ScriptFault) : Type 0 where
  pub told : (more : List ℕ) → TakenAnswers (held_with old taken) (held_with new left) (Err fault) more
  pub none : left.bytes ≡ []
  pub unmet : IsFalse left.ended
  pub bad : HoldsRefused (held_with new left) fault

-- what was taken was pushed, and the script goes on, or refused it
abbrev pub IsPushed : Held → Held → Taken → Taken → Result (Option ScriptItem) ScriptFault → Type 0
IsPushed old new taken left (Ok next) = PushesOn old new taken left next
IsPushed old new taken left (Err fault) = PushRefused old new taken left fault
