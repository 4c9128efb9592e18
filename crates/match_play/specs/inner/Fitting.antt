-- How what a match stands on fits how far its script was read.
use Rattle.std.specs.Prelude.{ℕ, ◌≡◌, ◌≢◌, ◌⊎◌, ◌≤◌, [], Bool, true, false, Option, Some, None, Result, Err, IsFalse, IsSome, IsTrue, ⊤}
use Rattle.nav_types.specs.declared.limits.TheConstants.{MAX_INPUT_BYTES}
use Rattle.script_text.specs.Reader.{Held, held_cause}
use Rattle.script_text.specs.declared.faults.ScriptFault.{ScriptFault}
use Rattle.script_text.specs.declared.faults.ScriptFault.TheVariants as met
use Rattle.match_play.specs.declared.states.NextItem.{NextItem}
use Rattle.match_play.specs.declared.states.NextItem.TheVariants as next_item
use Rattle.match_play.specs.declared.states.MatchProgress.{MatchProgress}
use Rattle.match_play.specs.declared.states.MatchState.{MatchState}
use Rattle.match_play.specs.declared.states.ScriptStop.{ScriptStop}
use Rattle.match_play.specs.declared.states.ScriptStop.TheVariants.{BadLine, TooLong}
use Rattle.match_play.specs.declared.faults.MatchFault.{MatchFault}
use Rattle.match_play.specs.declared.faults.MatchFault.TheVariants as fault
use Rattle.match_play.specs.Grounds.{Becomes, FitsItem, FitsPart, turns_in}

-- The script may be read on, from where it was read to. There were no more turns than bytes.
pub record IsOpen (held : Held) (turns : ℕ) : Type 0 where
  pub going : IsFalse held.failed
  pub more : IsFalse held.ended
  pub few : turns ≤ held.place.bytes
  pub limit : held.place.bytes ≤ MAX_INPUT_BYTES

-- The script has ended. Where bytes are held they may give one item more, which then fits.
pub record IsLast (held : Held) (turns : ℕ) (Fits : Type 0) : Type 0 where
  pub going : IsFalse held.failed
  pub few : held.bytes ≢ [] → turns ≤ held.place.bytes
  pub fits : held.bytes ≢ [] → Fits

-- what comes of the script next will fit
abbrev pub MayGoOn : Bool → Held → ℕ → Type 0 → Type 0
MayGoOn false held turns Fits = IsOpen held turns × Fits
MayGoOn true held turns Fits = IsLast held turns Fits

-- what stands fits the lines that come
abbrev pub FitsLines : Bool → MatchProgress → Held → Type 0
FitsLines ended g held = MayGoOn ended held (turns_in g) (FitsPart g held.place.part)

-- what is held at a bad line has a cause
abbrev pub HoldsStop : ScriptStop → Held → Type 0
HoldsStop (BadLine n) held = IsSome (held_cause held)
HoldsStop (TooLong n) held = ⊤

-- An item that waits fits, and what it makes of what stands fits the lines behind it. A stop has its
-- cause.
abbrev pub FitsAhead : Bool → MatchProgress → Held → NextItem → Type 0
FitsAhead ended g held next_item.Lines = FitsLines ended g held
FitsAhead ended g held (next_item.Item i) = FitsItem g i × ((next : MatchProgress) → Becomes g i next → FitsLines ended next held)
FitsAhead ended g held (next_item.Stop stop) = HoldsStop stop held
FitsAhead ended g held (next_item.Nothing stop) = HoldsStop stop held
FitsAhead ended g held next_item.Whole = IsTrue ended

abbrev pub IsFit : MatchState → Type 0
IsFit c = FitsAhead c.ended c.progress c.script c.next_item

-- no stop was met
abbrev pub IsGoing : NextItem → Type 0
IsGoing next_item.Lines = ⊤
IsGoing (next_item.Item item) = ⊤
IsGoing (next_item.Stop stop) = ⊥
IsGoing (next_item.Nothing stop) = ⊥
IsGoing next_item.Whole = ⊥

-- a stop was met
abbrev pub IsStopped : NextItem → Type 0
IsStopped next_item.Lines = ⊥
IsStopped (next_item.Item item) = ⊥
IsStopped (next_item.Stop stop) = ⊤
IsStopped (next_item.Nothing stop) = ⊤
IsStopped next_item.Whole = ⊥

-- the refusal of a match that has stopped
abbrev pub fault_of : ScriptStop → MatchFault
fault_of (BadLine n) = fault.BadLine n
fault_of (TooLong n) = fault.TooLong n

-- the stop was told, and is the refusal; or there was no memory
abbrev pub TellsStop : NextItem → Result (Unit {0}) MatchFault → Type 0
TellsStop next result = (result ≡ Err fault.NoMemory) ⊎ ((stop : ScriptStop) × ((next ≡ next_item.Nothing stop) × (result ≡ Err (fault_of stop))))

-- the stop that a refusal of the script is, if it is one
abbrev pub stop_in : ScriptFault → Option ScriptStop
stop_in (met.BadLine n) = Some (BadLine n)
stop_in (met.TooLong n) = Some (TooLong n)
stop_in met.ReadFault = None
stop_in met.NoMemory = None
