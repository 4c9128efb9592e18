-- How far a script was read that is to be played.
use Rattle.std.specs.Prelude.{ℕ, ◌≡◌, List, [], ◌++◌, All, IsSome, Option, Some, None, option_map, ⊤}
use Rattle.nav_types.specs.declared.cells.Rect.{Rect}
use Rattle.nav_types.specs.Cells.{IsRectInside}
use Rattle.posts.specs.declared.posts.Post.{Post}
use Rattle.posts.specs.Maps.{Map}
use Rattle.script_text.specs.declared.faults.ScriptFault.{ScriptFault}
use Rattle.script_text.specs.declared.faults.ScriptFault.TheVariants as met
use Rattle.script_text.specs.declared.items.ScriptItem.{ScriptItem}
use Rattle.script_text.specs.declared.items.ScriptItem.TheVariants as item
use Rattle.script_text.specs.Causes.{stop_cause}
use Rattle.script_text.specs.Script.{Item, arrived, beginning, chain, map_after, reading, rules_of, turns_of, whole_input}
use Rattle.script_text.specs.Reader.{Held, held_cause, rules_at, stuck_after}
use Rattle.match_play.specs.declared.faults.MatchFault.{MatchFault}
use Rattle.match_play.specs.declared.faults.MatchFault.TheVariants as fault
use Rattle.match_play.specs.declared.scripts.SaidSoFar.{SaidSoFar}
use Rattle.match_play.specs.Scripts.{IsTurnOn}

-- turns on a map; where the map has not come there is none
abbrev pub AreTurnsOn : Option Map → List (List (List Post)) → Type 0
AreTurnsOn None turns = turns ≡ []
AreTurnsOn (Some m) turns = All (IsTurnOn m) turns

-- what was said keeps to the part of the script that was read
pub record GoesWith (held : Held) (said : SaidSoFar) : Type 0 where
  pub rules : rules_at held.place.part ≡ option_map rules_of said.map
  pub turns : AreTurnsOn said.map said.journal

-- The items so far of a script say this, and its reading goes on with what is held and what is left of it.
pub record HasRead (script : List ℕ) (held : Held) (left : List ℕ) (said : SaidSoFar) : Type 0 where
  pub items : List Item
  pub goes : reading script beginning ≡ chain (arrived items held.place) (λ q. reading (held.bytes ++ left) q)
  pub cause : stop_cause script beginning ≡ stop_cause (held.bytes ++ left) held.place
  pub says_map : map_after None items ≡ said.map
  pub says_turns : turns_of items ≡ said.journal

-- the script is whole, and says this
pub record HasReadAll (script : List ℕ) (said : SaidSoFar) : Type 0 where
  pub items : List Item
  pub whole : reading script beginning ≡ stuck_after items whole_input
  pub says_map : map_after None items ≡ said.map
  pub says_turns : turns_of items ≡ said.journal

-- base rectangles come behind the map, and lie inside it
abbrev pub FitsMap : Option Map → ScriptItem → Type 0
FitsMap found (item.Map m) = ⊤
FitsMap found (item.Turn posts) = ⊤
FitsMap None (item.Base rects) = ⊥
FitsMap (Some m) (item.Base rects) = All (λ (entry : Rect × ℕ). IsRectInside m.size entry.0) rects

-- the refusal of a match that a refusal of its script is
abbrev pub fault_in : ScriptFault → MatchFault
fault_in (met.BadLine n) = fault.BadLine n
fault_in (met.TooLong n) = fault.TooLong n
fault_in met.ReadFault = fault.NoMemory
fault_in met.NoMemory = fault.NoMemory

-- the reader that a script has stopped holds why, where it was stopped by a bad line
abbrev pub HoldsCause : List ℕ → Held → MatchFault → Type 0
HoldsCause script held (fault.BadLine n) = (stop_cause script beginning ≡ held_cause held) × IsSome (held_cause held)
HoldsCause script held (fault.TooLong n) = ⊤
HoldsCause script held fault.Ended = ⊤
HoldsCause script held fault.NoMemory = ⊤
