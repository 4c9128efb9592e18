-- What a reader holds, and how its calls go through an input.
use Rattle.std.specs.Prelude.{ℕ, ◌≡◌, ◌≢◌, ◌+◌, ◌≤◌, ◌⊎◌, List, [], ◌++◌, length, Bool, true, false, All, IfErr, IsErrOf, IsFalse, IsTrue, IsSome, Option, Some, None, Result, Ok, Err, is_err, ⊤}
use Rattle.nav_types.specs.declared.limits.TheConstants.{MAX_INPUT_BYTES}
use Rattle.io_edges.specs.Faults.{Rose}
use Rattle.io_edges.specs.Passing.{HasGiven}
use Rattle.posts.specs.declared.posts.Post.{Post}
use Rattle.input_lines.specs.declared.intake.TheConstants.{READ_SIZE}
use Rattle.input_lines.specs.Held.{WhereTold}
use Rattle.script_text.specs.declared.faults.ScriptFault.{ScriptFault}
use Rattle.script_text.specs.declared.faults.ScriptFault.TheVariants.{BadLine, TooLong, ReadFault, NoMemory}
use Rattle.input_lines.specs.Lines.{full_lines, unlines, IsPlain}
use Rattle.script_text.specs.declared.parts.Rules.{Rules}
use Rattle.script_text.specs.declared.parts.Part.{Part}
use Rattle.script_text.specs.declared.parts.Part.TheVariants.{BeforeMap, InBase, InTurns}
use Rattle.script_text.specs.declared.causes.Cause.{Cause}
use Rattle.script_text.specs.Causes.{next_cause, stop_cause, bad_number}
use Rattle.script_text.specs.Canon.{HaveLines}
use Rattle.script_text.specs.Script.{Place, beginning, Item, Stop, whole_input, too_long, bad_line, stuck_by, Walk, arrived, stuck, chain, walk, reading}

-- The place that the reading has come to, the bytes taken that no line has used yet, whether the end of the input was
-- met, whether no call may follow, and whether the reader has failed.
pub record Held : Type 0 where
  pub place : Place
  pub bytes : List ℕ
  pub ended : Bool
  pub over : Bool
  pub failed : Bool

-- a reader at the beginning of an input
abbrev pub unread : Held
unread = record { place = beginning; bytes = []; ended = false; over = false; failed = false }

-- how many bytes of the input were taken
abbrev pub taken_bytes : Held → ℕ
taken_bytes h = h.place.bytes + length h.bytes

-- why what a reader holds is refused
abbrev pub held_cause : Held → Option Cause
held_cause h = next_cause h.place h.bytes

-- what the lines after the map line keep to, once the map line was read
abbrev pub rules_at : Part → Option Rules
rules_at BeforeMap = None
rules_at (InBase rules) = Some rules
rules_at (InTurns rules) = Some rules

-- how many callers the map has
abbrev pub callers_of : Part → ℕ
callers_of BeforeMap = 0
callers_of (InBase rules) = rules.callers
callers_of (InTurns rules) = rules.callers

-- the version of the script has a line for each of a turn's posts
abbrev pub HaveLinesAt : Part → List (List Post) → Type 0
HaveLinesAt part turn = (rules : Rules) → rules_at part ≡ Some rules → HaveLines rules.version turn

-- the whole lines that are held end a turn, or stop the input
abbrev pub HoldsTurn : Held → Type 0
HoldsTurn h = (place : Place) → walk (full_lines h.bytes) h.place ≢ arrived [] place

-- The reader has used whole lines of what it held and took, which give these items. What it holds after that is the
-- rest.
pub record UsesLines (old new : Held) (taken : List ℕ) (items : List Item) : Type 0 where
  pub lines : List (List ℕ)
  pub plain : All IsPlain lines
  pub bytes : old.bytes ++ taken ≡ unlines lines ++ new.bytes
  pub walked : walk lines old.place ≡ arrived items new.place

-- The input goes on as before after these items, and while its end was not met, only whole lines were used.
pub record GoesOn (old new : Held) (before after : List ℕ) (items : List Item) : Type 0 where
  pub taken : List ℕ
  pub took : before ≡ taken ++ after
  pub same : reading (old.bytes ++ before) old.place ≡ chain (arrived items new.place) (λ q. reading (new.bytes ++ after) q)
  pub cause : stop_cause (old.bytes ++ before) old.place ≡ stop_cause (new.bytes ++ after) new.place
  pub at_end : IsTrue new.ended → after ≡ []
  pub used : IsFalse new.ended → UsesLines old new taken items

-- A read failed before the end of the input was met: whole lines were used, which give these items, and what is held is
-- the beginning of a line.
pub record StopsAtFault (old new : Held) (before after : List ℕ) (items : List Item) : Type 0 where
  pub going : IsFalse old.ended
  pub taken : List ℕ
  pub took : before ≡ taken ++ after
  pub used : UsesLines old new taken items
  pub no_line : full_lines new.bytes ≡ []

-- the input is whole, and read to its end
pub record IsRead (old : Held) (before after : List ℕ) : Type 0 where
  pub whole : reading (old.bytes ++ before) old.place ≡ stuck whole_input
  pub nothing : after ≡ []

-- a walk that gives these items and is stuck then
abbrev pub stuck_after : List Item → Stop → Walk
stuck_after items stop = record { items = items; ends = stuck_by stop }

-- The input stops at the line of this number, after these items, and the cause is that of what is held.
pub record StopsAtBad (old new : Held) (before : List ℕ) (items : List Item) (n : ℕ) : Type 0 where
  pub stuck : reading (old.bytes ++ before) old.place ≡ stuck_after items (bad_line n)
  pub cause : stop_cause (old.bytes ++ before) old.place ≡ held_cause new

-- What a refusal after these items says of an input that tells its bytes: `before` and `after` are those left in the
-- source.
abbrev pub Refuses : Held → Held → List ℕ → List ℕ → List Item → ScriptFault → Type 0
Refuses old new before after items (BadLine n) = StopsAtBad old new before items n
Refuses old new before after items (TooLong n) = reading (old.bytes ++ before) old.place ≡ stuck_after items (too_long n)
Refuses old new before after items ReadFault = StopsAtFault old new before after items
Refuses old new before after items NoMemory = ⊤

-- The last read of a call took a piece, at most as much as one read takes, before the end of the input was met, and the lines
-- of what was held with what was taken earlier left the call wanting more.
pub record ReadsWhile (Wants : Walk → Type 0) (old : Held) (before after : List ℕ) : Type 0 where
  pub earlier : List ℕ
  pub piece : List ℕ
  pub took : before ≡ earlier ++ (piece ++ after)
  pub few : length piece ≤ READ_SIZE
  pub going : IsFalse old.ended
  pub wants : Wants (walk (full_lines (old.bytes ++ earlier)) old.place)

-- nothing is taken ahead: each read is made only where the lines before it leave the call wanting more
abbrev pub TakesNoneAhead : (Walk → Type 0) → Held → Option (List ℕ) → Option (List ℕ) → Type 0
TakesNoneAhead Wants old left later = WhereTold left later (λ before after. (before ≡ after) ⊎ ReadsWhile Wants old before after)

-- more is wanted for a turn: the lines neither end one nor stop the input
abbrev pub WantsTurn : Walk → Type 0
WantsTurn w = (place : Place) × (w ≡ arrived [] place)

-- no call follows an answer without a turn, or without an item
abbrev pub is_last : {A : Type 0} → Result (Option A) ScriptFault → Bool
is_last (Ok (Some given)) = false
is_last (Ok None) = true
is_last (Err fault) = true

-- The bad line of this number is the first that the reader holds, or the one that is missing where it holds nothing.
pub record HoldsBad (n : ℕ) (h : Held) : Type 0 where
  pub number : n ≡ bad_number h.place h.bytes
  pub cause : IsSome (held_cause h)

-- what a refusal leaves held
abbrev pub HoldsRefused : Held → ScriptFault → Type 0
HoldsRefused h (BadLine n) = HoldsBad n h
HoldsRefused h (TooLong n) = ⊤
HoldsRefused h ReadFault = ⊤
HoldsRefused h NoMemory = ⊤

-- What a call takes from a source: the source gave the first of the bytes that it had left (`before`) and has the rest
-- (`now`), its count of faults has not fallen, and the answer is ReadFault only where that count rose.
pub record TakesFrom {A : Type 0} (before now : Option (List ℕ)) (faults_before faults_now : ℕ) (result : Result A ScriptFault) : Type 0 where
  pub given : HasGiven before now
  pub later : faults_before ≤ faults_now
  pub fault : IsErrOf result ReadFault → Rose faults_before faults_now

-- What an answer leaves held: no more was used than an input may have, an end of the input that was met stays met, and what
-- was refused as bad is still there.
pub record LeavesHeld {A : Type 0} (old new : Held) (result : Result A ScriptFault) : Type 0 where
  pub limit : new.place.bytes ≤ MAX_INPUT_BYTES
  pub stays : IsTrue old.ended → IsTrue new.ended
  pub bad : IfErr result (HoldsRefused new)

-- What a call leaves behind: that, whether it was the last, after which no call may follow, and that the reader has failed
-- where it was refused.
pub record Leaves {A : Type 0} (old new : Held) (last : Bool) (result : Result A ScriptFault) : Type 0 where
  pub held : LeavesHeld old new result
  pub over : new.over ≡ last
  pub failed : new.failed ≡ is_err result
