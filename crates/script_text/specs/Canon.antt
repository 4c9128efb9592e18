-- The canonical script: each line is a JSON value written with no white space, its keys in the order of the table of
-- forms, and a newline (10). Numbers are decimal, and fixed-point numbers their canonical texts as strings.
use Rattle.std.specs.Prelude.{ℕ, zero, suc, ◌+◌, ◌==◌, ◌||◌, List, [], ◌∷◌, ◌++◌, length, take, drop, map, flat_map, zip, Bool, true, IsTrue, nat_le, ℤ, codes}
use Rattle.std.specs.List.{list_all}
use Rattle.serde_json.specs.Data.{Data, number, unsigned, string, array, object, Members, no_members, member}
use Rattle.serde_json.specs.View.{items_of}
use Rattle.serde_json.specs.Written.{compact_text}
use Rattle.nav_types.specs.declared.cells.Rect.{Rect}
use Rattle.nav_types.specs.declared.cells.Size.{Size}
use Rattle.fixed_point.specs.Text.{fixed_text}
use Rattle.class_config.specs.declared.table.PassabilityClass.{PassabilityClass}
use Rattle.obstruction_shapes.specs.declared.shapes.Shape.{Shape}
use Rattle.obstruction_shapes.specs.declared.shapes.Shape.TheVariants.{Unit as UnitShape, Square as SquareShape}
use Rattle.goal_shapes.specs.declared.goals.GoalSpec.{GoalSpec}
use Rattle.goal_shapes.specs.declared.goals.GoalSpec.TheVariants.{Plain, Obstruction as ByObstruction}
use Rattle.posts.specs.declared.posts.Post.{Post}
use Rattle.posts.specs.declared.edits.Edit.TheVariants.{Add, Remove, Move}
use Rattle.posts.specs.declared.posts.Post.TheVariants.{Edit as Edits, Ask as Asks}
use Rattle.posts.specs.declared.posts.Request.TheVariants.{Path, Region}
use Rattle.posts.specs.Maps.{Map}
use Rattle.script_text.specs.declared.goals.GoalKey.TheVariants as goal_key
use Rattle.script_text.specs.declared.table.Form.{Form}
use Rattle.script_text.specs.declared.table.Form.TheVariants as form
use Rattle.script_text.specs.declared.versions.TheConstants.{FIRST_WITH_MASKS, FIRST_WITH_MOVES, NEWEST_VERSION}
use Rattle.script_text.specs.Table.{texts_of}
use Rattle.script_text.specs.Goals.{goal_key_text, key_of, goal_decimals}
use Rattle.script_text.specs.Grammar.{shape_decimals}

-- ---- values

abbrev pub whole_json : ℕ → Data
whole_json n = number (unsigned n)

abbrev pub decimal_json : ℤ → Data
decimal_json raw = string (fixed_text raw)

abbrev pub list_json : List Data → Data
list_json items = array (items_of items)

abbrev pub wholes_json : List ℕ → Data
wholes_json numbers = list_json (map whole_json numbers)

abbrev pub decimals_json : List ℤ → Data
decimals_json raws = list_json (map decimal_json raws)

abbrev pub in_order : List (List ℕ × Data) → Members
in_order [] = no_members
in_order (first ∷ others) = member first.0 first.1 (in_order others)

-- an object with its members in this order
abbrev pub object_json : List (List ℕ × Data) → Data
object_json members = object (in_order members)

-- the line of a form in a script of this version: under each of its keys the value in its place; a value beyond the keys
-- is left out
abbrev pub form_json : ℕ → Form → List Data → Data
form_json version f values = object_json (zip (texts_of version f) values)

-- a value as a line
unfoldable pub line : Data → List ℕ
line d = compact_text d ++ 10 ∷ []

-- ---- the map

abbrev pub class_json : PassabilityClass → Data
class_json class = object_json ((codes "name", string class.name) ∷ (codes "clearance", decimal_json class.clearance) ∷ [])

abbrev pub sides_json : Size → Data
sides_json size = wholes_json (size.w ∷ size.h ∷ [])

unfoldable pub map_json : Map → Data
map_json m = form_json NEWEST_VERSION form.Map (
    whole_json m.version ∷ sides_json m.size ∷ whole_json m.callers ∷ list_json (map class_json m.classes) ∷ [])

abbrev pub entry_json : Rect × ℕ → Data
entry_json entry = wholes_json (entry.0.i0 ∷ entry.0.j0 ∷ entry.0.i1 ∷ entry.0.j1 ∷ entry.1 ∷ [])

unfoldable pub base_json : List (Rect × ℕ) → Data
base_json rects = form_json NEWEST_VERSION form.Base (list_json (map entry_json rects) ∷ [])

-- a list in pieces of so many items, the last with the rest; the first number is not below the number of pieces
abbrev pub pieces : {X : Type 0} → ℕ → ℕ → List X → List (List X)
pieces zero size xs = []
pieces (suc turns) size [] = []
pieces (suc turns) size (x ∷ xs) = take size (x ∷ xs) ∷ pieces turns size (drop size (x ∷ xs))

-- the base lines, with 65,536 rectangles to a line
unfoldable pub canon_base : List (Rect × ℕ) → List ℕ
canon_base rects = flat_map (λ piece. line (base_json piece)) (pieces (length rects) 65536 rects)

unfoldable pub canon_map : Map → List ℕ
canon_map m = line (map_json m) ++ canon_base m.base

-- ---- posts

-- a goal that is a shape, under the key of its kind
abbrev pub shape_json : List ℕ → List ℤ → Data
shape_json key raws = object_json ((key, decimals_json raws) ∷ [])

unfoldable pub goal_json : GoalSpec → Data
goal_json (Plain goal) = shape_json (goal_key_text (key_of goal)) (goal_decimals goal)
goal_json (ByObstruction id grow) =
    object_json ((goal_key_text goal_key.Obstruction, list_json (whole_json id ∷ decimal_json grow ∷ [])) ∷ [])

-- the form of the line that adds an obstruction of this shape
abbrev pub add_form : Shape → Form
add_form (UnitShape x z half) = form.AddUnit
add_form (SquareShape rectangle) = form.AddSquare

-- the line of a post of this caller; without a mask, where the version has none
unfoldable pub post_json : ℕ → ℕ → Post → Data
post_json version caller (Edits (Add id o)) =
    form_json version (add_form o.shape) (whole_json caller ∷ whole_json id ∷ decimals_json (shape_decimals o.shape) ∷ whole_json o.mask ∷ [])
post_json version caller (Edits (Remove id)) = form_json version form.Remove (whole_json caller ∷ whole_json id ∷ [])
post_json version caller (Edits (Move id x z)) =
    form_json version form.Move (whole_json caller ∷ whole_json id ∷ decimals_json (x ∷ z ∷ []) ∷ [])
post_json version caller (Asks (Path request)) =
    form_json version form.Path (
    whole_json caller ∷ string request.class ∷ decimals_json (request.x ∷ request.z ∷ []) ∷ goal_json request.goal ∷ [])
post_json version caller (Asks (Region query)) =
    form_json version form.Region (whole_json caller ∷ string query.class ∷ decimals_json (query.x ∷ query.z ∷ []) ∷ [])

-- the lines of a caller's posts, in their order
unfoldable pub canon_posts : ℕ → ℕ → List Post → List ℕ
canon_posts version caller posts = flat_map (λ post. line (post_json version caller post)) posts

-- the lines of the posts of callers, from this caller on
abbrev pub canon_callers : ℕ → ℕ → List (List Post) → List ℕ
canon_callers version caller [] = []
canon_callers version caller (posts ∷ others) = canon_posts version caller posts ++ canon_callers version (caller + 1) others

unfoldable pub end_json : ℕ → Data
end_json turn = form_json NEWEST_VERSION form.End (whole_json turn ∷ [])

-- a turn: the posts of caller 0, of caller 1 and so on, and the end line
unfoldable pub canon_journal : Map → ℕ → List (List Post) → List ℕ
canon_journal m turn posts = canon_callers m.version 0 posts ++ line (end_json turn)

-- ---- what a version has lines for

-- a goal by obstruction stands from version 3 on
abbrev pub is_goal_of : ℕ → GoalSpec → Bool
is_goal_of version (Plain goal) = true
is_goal_of version (ByObstruction id grow) = nat_le FIRST_WITH_MOVES version

-- an add with a mask that is not of every class stands from version 2 on, a move from version 3 on
abbrev pub is_post_of : ℕ → Post → Bool
is_post_of version (Edits (Add id o)) = nat_le FIRST_WITH_MASKS version || o.mask == 65535
is_post_of version (Edits (Remove id)) = true
is_post_of version (Edits (Move id x z)) = nat_le FIRST_WITH_MOVES version
is_post_of version (Asks (Path request)) = is_goal_of version request.goal
is_post_of version (Asks (Region query)) = true

-- each post has a line in a script of this version
abbrev pub HaveLines : ℕ → List (List Post) → Type 0
HaveLines version turn = IsTrue (list_all (λ posts. list_all (is_post_of version) posts) turn)
