-- Why the line is bad at which a match by text or a script has stopped, as it comes to C.
use Rattle.std.specs.Prelude.{ℕ, ◌≡◌, ◌≢◌, ◌<◌, ◌⊎◌, List, [], ◌∷◌, ◌++◌, drop, length, Option, Some, None}
use Rattle.std.specs.List.{Contains}
use Rattle.script_text.specs.declared.causes.Cause.{Cause}
use Rattle.script_text.specs.CauseTexts.{cause_text}
use Rattle.match_play.specs.declared.scripts.NumberedCause.{NumberedCause}
use Rattle.match_play.specs.Playing.{bad_cause}
use Rattle.match_play.specs.Scripts.{IsBadLineOf}
use Rattle.pathserve_c.specs.declared.states.State.{State}
use Rattle.pathserve_c.specs.declared.states.State.TheVariants.{Text, Structs, View, Finder}
use Rattle.pathserve_c.specs.declared.statuses.TheConstants.{DONE, SMALL, NO_MEMORY}
use Rattle.pathserve_c.specs.Calls.{IsRefusedUnwritten}

-- what a cause says, and nothing where there is none
abbrev pub cause_said : Option Cause → List ℕ
cause_said None = []
cause_said (Some cause) = cause_text cause

-- The text stands at the head of the buffer, or the buffer is too small, or there was no memory.
pub record IsTextTold (text before after : List ℕ) (old new status : ℕ) : Type 0 where
  pub statuses : Contains (DONE ∷ SMALL ∷ NO_MEMORY ∷ []) status
  pub done : status ≡ DONE → after ≡ text ++ drop (length text) before
  pub small : status ≡ SMALL → length before < length text
  pub kept : status ≢ DONE → after ≡ before
  pub known : status ≢ NO_MEMORY → new ≡ length text
  pub unknown : status ≡ NO_MEMORY → new ≡ old

-- the cause of a match by text was told; anything else refuses
abbrev pub IsCauseTold : Option State → (before after : List ℕ) → (old new : ℕ) → ℕ → Type 0
IsCauseTold None before after old new status = IsRefusedUnwritten None before after old new status
IsCauseTold (Some (Structs structs)) before after old new status = IsRefusedUnwritten (Some (Structs structs)) before after old new status
IsCauseTold (Some (View version)) before after old new status = IsRefusedUnwritten (Some (View version)) before after old new status
IsCauseTold (Some (Finder finder)) before after old new status = IsRefusedUnwritten (Some (Finder finder)) before after old new status
IsCauseTold (Some (Text text)) before after old new status = IsTextTold (cause_said (bad_cause text.game)) before after old new status

-- ---- of a script

-- the number of a bad line, and 0 where there is none
abbrev pub number_of : Option NumberedCause → ℕ
number_of None = 0
number_of (Some bad) = bad.number

-- why it is bad, where there is one
abbrev pub cause_of : Option NumberedCause → Option Cause
cause_of None = None
cause_of (Some bad) = Some bad.cause

-- The number of a bad line was told, and where the buffer holds it why the line is bad; or there was no memory, and nothing was.
pub record IsBadLineTold (found : Option NumberedCause) (old_line new_line : ℕ) (before after : List ℕ) (old new status : ℕ) : Type 0 where
  pub text : IsTextTold (cause_said (cause_of found)) before after old new status
  pub number : status ≢ NO_MEMORY → new_line ≡ number_of found
  pub untold : status ≡ NO_MEMORY → new_line ≡ old_line

-- There was no memory, and nothing was written.
pub record IsUntold (old_line new_line : ℕ) (before after : List ℕ) (old new status : ℕ) : Type 0 where
  pub why : status ≡ NO_MEMORY
  pub line : new_line ≡ old_line
  pub text : after ≡ before
  pub whole : new ≡ old

-- the bad line at which a script stops was told; or there was no memory
abbrev pub IsScriptTold : List ℕ → (old_line new_line : ℕ) → (before after : List ℕ) → (old new status : ℕ) → Type 0
IsScriptTold script old_line new_line before after old new status = IsUntold old_line new_line before after old new status
    ⊎ ((found : Option NumberedCause) × (IsBadLineOf script found × IsBadLineTold found old_line new_line before after old new status))
