-- How an input is read: what its lines give in their places, and where and why it stops.
use Rattle.std.specs.Prelude.{ℕ, ◌+◌, ◌&&◌, ◌||◌, ◌==◌, List, [], ◌∷◌, ◌++◌, length, replicate, slice_set, Bool, true, false, nat_lt, if◌then◌else◌, Option, Some, None, option_map, option_and_then}
use Rattle.std.specs.List.{list_all}
use Rattle.std.specs.Str.{is_utf8}
use Rattle.serde_json.specs.Data.{Data}
use Rattle.serde_json.specs.Read.{read}
use Rattle.nav_types.specs.declared.cells.Rect.{Rect}
use Rattle.nav_types.specs.declared.limits.TheConstants.{MAX_INPUT_BYTES, MAX_LINE_BYTES}
use Rattle.posts.specs.declared.posts.Post.{Post}
use Rattle.posts.specs.Maps.{Map, with_base}
use Rattle.posts.specs.Callers.{list_of}
use Rattle.script_text.specs.declared.forms.CallerPost.{CallerPost}
use Rattle.script_text.specs.declared.parts.Rules.{Rules}
use Rattle.script_text.specs.declared.parts.Part.{Part}
use Rattle.script_text.specs.declared.parts.Part.TheVariants.{BeforeMap, InBase, InTurns}
use Rattle.input_lines.specs.Lines.{full_lines, tail_of}
use Rattle.script_text.specs.Forms.{map_of, base_of, post_of, end_of}
use Rattle.script_text.specs.Nesting.{is_shallow}

-- what the lines after the map line keep to: the version of the script, the number of callers and the size of the map
abbrev pub rules_of : Map → Rules
rules_of m = record { version = m.version; callers = m.callers; size = m.size }

-- Where the reading of an input stands: the bytes and lines used, the part of the script, the turns that have ended, and
-- the posts so far of the turn that has begun, caller by caller.
pub record Place : Type 0 where
  pub bytes : ℕ
  pub lines : ℕ
  pub part : Part
  pub turns : ℕ
  pub posts : List (List Post)

abbrev pub beginning : Place
beginning = record { bytes = 0; lines = 0; part = BeforeMap; turns = 0; posts = [] }

-- what lines give: the map line begins the map, a base line adds rectangles to it, and an end line ends a turn, with the
-- posts of each caller
pub data Item : Type 0 where
  begins : Map → Item
  adds_base : List (Rect × ℕ) → Item
  ends_turn : List (List Post) → Item

-- why an input stops: it is whole; the line of this number passes the limit of a line, or the input with it its own; or the
-- line of this number is bad
pub data Stop : Type 0 where
  whole_input : Stop
  too_long : ℕ → Stop
  bad_line : ℕ → Stop

-- a walk over lines ends at a place, or at a stop
pub data Ends : Type 0 where
  at_place : Place → Ends
  stuck_by : Stop → Ends

-- what a walk over lines gives, and where it ends
pub record Walk : Type 0 where
  pub items : List Item
  pub ends : Ends

abbrev pub arrived : List Item → Place → Walk
arrived items place = record { items = items; ends = at_place place }

abbrev pub stuck : Stop → Walk
stuck stop = record { items = []; ends = stuck_by stop }

-- the walk that goes on from where a walk ends; a walk that is stuck stays so
abbrev pub chain_from : List Item → Ends → (Place → Walk) → Walk
chain_from items (at_place place) go_on = record { items = items ++ (go_on place).items; ends = (go_on place).ends }
chain_from items (stuck_by stop) go_on = record { items = items; ends = stuck_by stop }

abbrev pub chain : Walk → (Place → Walk) → Walk
chain w go_on = chain_from w.items w.ends go_on

-- ---- what items say

-- the map after an item: that of the map line, with the rectangles of the base lines so far
abbrev pub map_after_item : Option Map → Item → Option Map
map_after_item found (begins m) = Some m
map_after_item found (adds_base rects) = option_map (λ m. with_base m rects) found
map_after_item found (ends_turn posts) = found

-- the map after items, and their turns
abbrev pub map_after : Option Map → List Item → Option Map
map_after found [] = found
map_after found (item ∷ items) = map_after (map_after_item found item) items

abbrev pub turns_of : List Item → List (List (List Post))
turns_of [] = []
turns_of (ends_turn posts ∷ items) = posts ∷ turns_of items
turns_of (_ ∷ items) = turns_of items

-- ---- one line

-- the line's reading: one JSON value in UTF-8, with no more than MAX_NESTING arrays and objects in one another
abbrev pub reading_of : List ℕ → Option Data
reading_of line = if is_utf8 line && is_shallow line then read line else None

-- the place after one line more, of so many bytes with its newline
abbrev pub counted : Place → ℕ → Place
counted p size = record p { bytes = p.bytes + size; lines = p.lines + 1 }

abbrev pub bad : Place → Walk
bad p = stuck (bad_line p.lines)

-- no caller has a post
abbrev pub no_posts : ℕ → List (List Post)
no_posts callers = replicate callers []

-- line 1 is the map line
abbrev pub map_line : Place → Option Map → Walk
map_line p None = bad p
map_line p (Some m) = arrived (begins m ∷ []) (record p { part = InBase (rules_of m); posts = no_posts m.callers })

-- the posts with one more at the end of its caller's
abbrev pub with_post : List (List Post) → CallerPost → List (List Post)
with_post posts said = slice_set posts said.caller (list_of posts said.caller ++ said.post ∷ [])

-- the end line carries the number of its turn
abbrev pub end_line : Place → Rules → Option ℕ → Walk
end_line p rules None = bad p
end_line p rules (Some number) = if number == p.turns + 1
    then arrived (ends_turn p.posts ∷ []) (record p { part = InTurns rules; turns = p.turns + 1; posts = no_posts rules.callers })
    else bad p

-- a line of a turn: a post line, or else the end line
abbrev pub turn_line : Place → Rules → Option CallerPost → Option ℕ → Walk
turn_line p rules (Some said) number = arrived [] (record p { part = InTurns rules; posts = with_post p.posts said })
turn_line p rules None number = end_line p rules number

abbrev pub placed_in_turn : Place → Rules → Option Data → Walk
placed_in_turn p rules d = turn_line p rules (option_and_then (post_of rules.version rules.callers) d) (option_and_then end_of d)

-- a line where base lines may stand: a base line, or else the first line of a turn
abbrev pub base_line : Place → Rules → Option Data → Option (List (Rect × ℕ)) → Walk
base_line p rules d (Some rects) = arrived (adds_base rects ∷ []) p
base_line p rules d None = placed_in_turn p rules d

-- what a line gives in its place, by its reading, where it has one; the place has counted it already
abbrev pub placed_in : Part → Place → Option Data → Walk
placed_in BeforeMap p d = map_line p (option_and_then map_of d)
placed_in (InBase rules) p d = base_line p rules d (option_and_then (base_of rules.size) d)
placed_in (InTurns rules) p d = placed_in_turn p rules d

abbrev pub placed : Place → Option Data → Walk
placed p d = placed_in p.part p d

-- the line is longer than a line may be, or the input with it than an input may be
abbrev pub is_long : Place → ℕ → List ℕ → Bool
is_long p size line = nat_lt MAX_LINE_BYTES (length line) || nat_lt MAX_INPUT_BYTES (p.bytes + size)

-- what a line of so many bytes, with its newline where it has one, gives in its place
abbrev pub accept : ℕ → List ℕ → Place → Walk
accept size line p = if is_long p size line then stuck (too_long (p.lines + 1)) else placed (counted p size) (reading_of line)

-- ---- the whole input

abbrev pub walk : List (List ℕ) → Place → Walk
walk [] p = arrived [] p
walk (line ∷ lines) p = chain (accept (length line + 1) line p) (λ q. walk lines q)

abbrev pub is_empty : List Post → Bool
is_empty [] = true
is_empty (post ∷ posts) = false

-- an input may end after the map line, a base line or an end line; elsewhere the line that is missing is bad
abbrev pub finish_in : Part → Place → Walk
finish_in BeforeMap p = stuck (bad_line (p.lines + 1))
finish_in (InBase rules) p = stuck whole_input
finish_in (InTurns rules) p = if list_all is_empty p.posts then stuck whole_input else stuck (bad_line (p.lines + 1))

abbrev pub finish : Place → Walk
finish p = finish_in p.part p

-- the last line may end with the input, if it has a byte
abbrev pub last_line : List ℕ → Place → Walk
last_line [] p = finish p
last_line (byte ∷ bytes) p = chain (accept (length (byte ∷ bytes)) (byte ∷ bytes) p) finish

-- what an input gives from a place on: the items of its lines, and its stop
abbrev pub reading : List ℕ → Place → Walk
reading bytes p = chain (walk (full_lines bytes) p) (λ q. last_line (tail_of bytes) q)
