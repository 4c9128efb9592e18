-- A script that is read to its end, and the text of a session of its posts.
use Rattle.std.specs.Prelude.{ℕ, ◌≡◌, List, [], All, length, ⊤, Option, Some, None, Result, Ok, Err}
use Rattle.nav_types.specs.declared.cells.Rect.{Rect}
use Rattle.nav_types.specs.Cells.{IsRectInside}
use Rattle.posts.specs.declared.posts.Post.{Post}
use Rattle.posts.specs.declared.replies.TurnReplies.{TurnReplies}
use Rattle.posts.specs.Maps.{Map, with_base}
use Rattle.posts.specs.Callers.{of_caller, list_of}
use Rattle.turn_core.specs.Turns.{IsOneThread}
use Rattle.path_service.specs.machine.Effects.{joined_up}
use Rattle.script_text.specs.declared.faults.ScriptFault.{ScriptFault}
use Rattle.script_text.specs.declared.items.ScriptItem.{ScriptItem}
use Rattle.script_text.specs.declared.items.ScriptItem.TheVariants as item
use Rattle.script_text.specs.Script.{Item, beginning, map_after, whole_input, turns_of, no_posts, reading}
use Rattle.script_text.specs.Reader.{Held, unread, stuck_after, Refuses}
use Rattle.input_lines.specs.Held.{WhereTold}
use Rattle.pathserve.specs.declared.serving.Script.{Script}
use Rattle.pathserve.specs.Serving.{IsJournalOf, journal_text}

-- ---- what items make of a script

-- The item may come behind what was read: the map first, and behind it rectangles that lie inside it, and turns of its callers.
abbrev pub FitsBehind : Option Script → ScriptItem → Type 0
FitsBehind None (item.Map m) = ⊤
FitsBehind None (item.Base rects) = ⊥
FitsBehind None (item.Turn turn) = ⊥
FitsBehind (Some s) (item.Map m) = ⊥
FitsBehind (Some s) (item.Base rects) = All (λ (entry : Rect × ℕ). IsRectInside s.map.size entry.0) rects
FitsBehind (Some s) (item.Turn turn) = length turn ≡ length s.posts

-- what was read with the item: a map without posts, the map with the rectangles, or the posts of each caller with its own of the turn
abbrev pub with_item : Option Script → ScriptItem → Option Script
with_item None (item.Map m) = Some (record { map = m; posts = no_posts m.callers })
with_item None (item.Base rects) = None
with_item None (item.Turn turn) = None
with_item (Some s) (item.Map m) = None
with_item (Some s) (item.Base rects) = Some (record s { map = with_base s.map rects })
with_item (Some s) (item.Turn turn) = Some (record s { posts = joined_up s.posts turn })

-- ---- scripts that were read to their end, or not

-- The input is whole and read to its end. It gives this map, and these are the posts of each caller in its turns.
pub record IsWholeScript (m : Map) (lists : List (List Post)) (bytes rest : List ℕ) : Type 0 where
  pub items : List Item
  pub whole : reading bytes beginning ≡ stuck_after items whole_input
  pub nothing : rest ≡ []
  pub on_map : map_after None items ≡ Some m
  pub posts : (caller : ℕ) → list_of lists caller ≡ of_caller caller (turns_of items)

-- a refusal came after these items
pub record RefusesAll (old new : Held) (before after : List ℕ) (fault : ScriptFault) : Type 0 where
  pub items : List Item
  pub refused : Refuses old new before after items fault

-- the same where the source tells its bytes
abbrev pub WholeTold : Map → List (List Post) → Option (List ℕ) → Option (List ℕ) → Type 0
WholeTold m lists start now = WhereTold start now (IsWholeScript m lists)

-- an input was refused, read from its beginning
abbrev pub RefusedTold : Held → ScriptFault → Option (List ℕ) → Option (List ℕ) → Type 0
RefusedTold new fault start now = WhereTold start now (λ bytes rest. RefusesAll unread new bytes rest fault)

-- what an answer with a script, or without, says of an input that tells its bytes
abbrev pub ScriptTold : Held → Option (List ℕ) → Option (List ℕ) → Result Script ScriptFault → Type 0
ScriptTold new start now (Ok s) = WholeTold s.map s.posts start now
ScriptTold new start now (Err fault) = RefusedTold new fault start now

-- ---- sessions

-- the text that a session of these posts on a map gives: that of a journal of its callers
pub record IsTextOfSession (m : Map) (lists : List (List Post)) (text : List ℕ) : Type 0 where
  pub journal : List (List (List Post))
  pub of_callers : IsJournalOf m.callers (list_of lists) journal
  pub told : List TurnReplies
  pub one_thread : IsOneThread m journal told
  pub is : text ≡ journal_text m journal told
