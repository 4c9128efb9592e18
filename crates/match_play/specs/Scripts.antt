-- What a whole script says.
use Rattle.std.specs.Prelude.{ℕ, ◌≡◌, List, length, All, Option, Some, None, Result, Ok, Err, ⊤}
use Rattle.posts.specs.declared.posts.Post.{Post}
use Rattle.posts.specs.Maps.{Map}
use Rattle.script_text.specs.Canon.{HaveLines}
use Rattle.script_text.specs.ReadsBack.{ReadsAs}
use Rattle.script_text.specs.Causes.{stop_cause}
use Rattle.script_text.specs.Script.{bad_line, beginning, reading, stuck_by, too_long}
use Rattle.match_play.specs.declared.faults.MatchFault.{MatchFault}
use Rattle.match_play.specs.declared.faults.MatchFault.TheVariants as fault
use Rattle.match_play.specs.declared.scripts.NumberedCause.{NumberedCause}
use Rattle.match_play.specs.declared.scripts.SavedMatch.{SavedMatch}

-- a turn has a list of posts for each caller of the map, and its posts have lines in the map's version
abbrev pub IsTurnOn : Map → List (List Post) → Type 0
IsTurnOn m turn = (length turn ≡ m.callers) × HaveLines m.version turn

-- why a script says no match: it stops at a line; or there was no memory
abbrev pub RefusesScript : List ℕ → MatchFault → Type 0
RefusesScript script (fault.BadLine n) = (reading script beginning).ends ≡ stuck_by (bad_line n)
RefusesScript script (fault.TooLong n) = (reading script beginning).ends ≡ stuck_by (too_long n)
RefusesScript script fault.Ended = ⊥
RefusesScript script fault.NoMemory = ⊤

-- a whole script says this map and these turns on it
pub record SaysMatch (script : List ℕ) (said : SavedMatch) : Type 0 where
  pub reads : ReadsAs said.map said.journal script
  pub turns : All (IsTurnOn said.map) said.journal

-- what an answer says of a script
abbrev pub SaysAs : List ℕ → Result SavedMatch MatchFault → Type 0
SaysAs script (Ok said) = SaysMatch script said
SaysAs script (Err why) = RefusesScript script why

-- a script stops at this line, which is bad for this cause; at no number where there is none
abbrev pub IsBadLineOf : List ℕ → Option NumberedCause → Type 0
IsBadLineOf script None = (n : ℕ) → ¬ ((reading script beginning).ends ≡ stuck_by (bad_line n))
IsBadLineOf script (Some bad) =
    ((reading script beginning).ends ≡ stuck_by (bad_line bad.number)) × (stop_cause script beginning ≡ Some bad.cause)
