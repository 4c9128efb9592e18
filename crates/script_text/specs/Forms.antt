-- What the lines of a script say, over the reading of serde_json. A line is an object that has exactly the keys of one
-- form of `Table.antt`, in any order; an object has each key once.
use Rattle.std.specs.Prelude.{ℕ, ◌&&◌, List, [], ◌∷◌, nat_le, nat_lt, if◌then◌else◌, Option, Some, None, option_map, option_and_then}
use Rattle.serde_json.specs.Data.{Data}
use Rattle.nav_types.specs.declared.cells.Rect.{Rect}
use Rattle.nav_types.specs.declared.cells.Size.{Size}
use Rattle.nav_types.specs.declared.limits.TheConstants.{MAX_CALLERS}
use Rattle.fixed_point.specs.Text.{some_if}
use Rattle.class_config.specs.Classes.{classes_of}
use Rattle.class_config.specs.declared.table.PassabilityClass.{PassabilityClass}
use Rattle.obstruction_shapes.specs.declared.shapes.Shape.{Shape}
use Rattle.obstruction_shapes.specs.declared.shapes.Shape.TheVariants.{Unit as UnitShape, Square as SquareShape}
use Rattle.posts.specs.declared.edits.Edit.{Edit}
use Rattle.posts.specs.declared.edits.Edit.TheVariants.{Add, Remove, Move}
use Rattle.posts.specs.declared.posts.Post.{Post}
use Rattle.posts.specs.declared.posts.Post.TheVariants.{Edit as Edits, Ask as Asks}
use Rattle.posts.specs.declared.posts.Request.{Request}
use Rattle.posts.specs.declared.posts.Request.TheVariants.{Path, Region}
use Rattle.posts.specs.Maps.{Map}
use Rattle.script_text.specs.declared.forms.CallerPost.{CallerPost}
use Rattle.script_text.specs.declared.causes.keys.Key.TheVariants as key
use Rattle.script_text.specs.declared.table.Form.{Form}
use Rattle.script_text.specs.declared.table.Form.TheVariants as form
use Rattle.script_text.specs.declared.versions.TheConstants.{FIRST_WITH_MASKS, NEWEST_VERSION}
use Rattle.script_text.specs.Table.{key_text, has_form, form_of}
use Rattle.script_text.specs.Goals.{goal_of}
use Rattle.script_text.specs.Values.{whole, whole_in, whole_below, obstruction_number, class_name, under, array_items, has_items, whole_at, both, all_three, point_of, round_of, rectangle_of, size_of}

-- ---- the map line

abbrev pub map_by : Option ℕ → Option Size → Option ℕ → Option (List PassabilityClass) → Option Map
map_by (Some version) (Some size) (Some callers) (Some classes) =
    Some (record { version = version; size = size; callers = callers; classes = classes; base = [] })
map_by _ _ _ _ = None

-- the map of a map line; it has no base rectangle yet
unfoldable pub map_of : Data → Option Map
map_of d = if has_form NEWEST_VERSION d form.Map
    then map_by (under (whole_in 1 NEWEST_VERSION) (key_text key.Version) d) (under size_of (key_text key.Size) d)
    (under (whole_in 1 MAX_CALLERS) (key_text key.Callers) d) (under classes_of (key_text key.Classes) d)
    else None

-- ---- base lines

-- a rectangle of cells of the map, with its mask
abbrev pub entry_in : Size → ℕ → ℕ → ℕ → ℕ → ℕ → Option (Rect × ℕ)
entry_in size i0 j0 i1 j1 mask =
    some_if (nat_le i0 i1 && nat_lt i1 size.w && nat_le j0 j1 && nat_lt j1 size.h && nat_le mask 65535)
    (record { i0 = i0; j0 = j0; i1 = i1; j1 = j1 }, mask)

abbrev pub entry_by : Size → Option ℕ → Option ℕ → Option ℕ → Option ℕ → Option ℕ → Option (Rect × ℕ)
entry_by size (Some i0) (Some j0) (Some i1) (Some j1) (Some mask) = entry_in size i0 j0 i1 j1 mask
entry_by size _ _ _ _ _ = None

-- an array of five whole numbers i0, j0, i1, j1, mask
unfoldable pub entry_of : Size → Data → Option (Rect × ℕ)
entry_of size d = if has_items 5 d
    then entry_by size (whole_at 0 d) (whole_at 1 d) (whole_at 2 d) (whole_at 3 d) (whole_at 4 d)
    else None

-- what each item gives, in order, where each gives something
abbrev pub each : {X Y : Type 0} → (X → Option Y) → List X → Option (List Y)
each gives [] = Some []
each gives (item ∷ items) = option_and_then (λ first. option_map (λ others. first ∷ others) (each gives items)) (gives item)

-- the rectangles of a base line, each with its mask, on a map of this size
unfoldable pub base_of : Size → Data → Option (List (Rect × ℕ))
base_of size d = if has_form NEWEST_VERSION d form.Base
    then option_and_then (each (entry_of size)) (under array_items (key_text key.Base) d)
    else None

-- ---- post lines

-- the mask of an add line; without one it is of every class
unfoldable pub mask_of : ℕ → Data → Option ℕ
mask_of version d = if nat_le FIRST_WITH_MASKS version then under (whole_in 0 65535) (key_text key.Mask) d else Some 65535

-- the shapes of add lines
abbrev pub unit_of : Data → Option Shape
unit_of d = option_map (λ u. UnitShape u.0 u.1 u.2) (under round_of (key_text key.Unit) d)

abbrev pub square_of : Data → Option Shape
square_of d = option_map SquareShape (under rectangle_of (key_text key.Square) d)

-- the edit of an add line with this shape
unfoldable pub add_of : ℕ → Option Shape → Data → Option Edit
add_of version shape d = option_map (λ parts. Add parts.0 (record { shape = parts.1; mask = parts.2 }))
    (all_three (under obstruction_number (key_text key.Add) d) shape (mask_of version d))

unfoldable pub remove_of : Data → Option Edit
remove_of d = option_map Remove (under obstruction_number (key_text key.Remove) d)

unfoldable pub move_of : Data → Option Edit
move_of d = option_map (λ parts. Move parts.0 parts.1.0 parts.1.1)
    (both (under obstruction_number (key_text key.Move) d) (under point_of (key_text key.To) d))

unfoldable pub path_of : ℕ → Data → Option Request
path_of version d = option_map (λ parts. Path (record { class = parts.0; x = parts.1.0; z = parts.1.1; goal = parts.2 }))
    (all_three (under class_name (key_text key.Path) d) (under point_of (key_text key.From) d) (under (goal_of version) (key_text key.Goal) d))

unfoldable pub region_of : Data → Option Request
region_of d = option_map (λ parts. Region (record { class = parts.0; x = parts.1.0; z = parts.1.1 }))
    (both (under class_name (key_text key.Region) d) (under point_of (key_text key.At) d))

-- the post of a line that has the keys of this form
abbrev pub post_in : ℕ → Data → Form → Option Post
post_in version d form.AddUnit = option_map Edits (add_of version (unit_of d) d)
post_in version d form.AddSquare = option_map Edits (add_of version (square_of d) d)
post_in version d form.Remove = option_map Edits (remove_of d)
post_in version d form.Move = option_map Edits (move_of d)
post_in version d form.Path = option_map Asks (path_of version d)
post_in version d form.Region = option_map Asks (region_of d)
post_in version d other = None

-- the post of a post line, in a script of this version with so many callers
unfoldable pub post_of : ℕ → ℕ → Data → Option CallerPost
post_of version callers d = option_map (λ parts. record { caller = parts.0; post = parts.1 })
    (both (under (whole_below callers) (key_text key.Caller) d) (option_and_then (post_in version d) (form_of version d)))

-- ---- the end line

-- the number of an end line
unfoldable pub end_of : Data → Option ℕ
end_of d = if has_form NEWEST_VERSION d form.End then under whole (key_text key.End) d else None
