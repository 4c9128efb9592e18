-- The grammar of the lines of a script: which readings are lines, and what they say. An object has the members that are
-- listed and no others, in any order. Coordinates and lengths are raw fixed-point numbers, of 65536 to a navcell.
use Rattle.std.specs.Prelude.{◌≡◌, ◌≢◌, ◌⊎◌, ℕ, ◌<◌, ◌≤◌, ⊤, List, [], ◌∷◌, length, All, IsTrue, ℤ, Some, codes, nat_le, if◌then◌else◌}
use Rattle.serde_json.specs.Data.{Data, number, unsigned, string, array, object, Members, no_members, member}
use Rattle.serde_json.specs.View.{items_of}
use Rattle.nav_types.specs.declared.cells.Rect.{Rect}
use Rattle.nav_types.specs.declared.cells.Size.{Size}
use Rattle.nav_types.specs.Cells.{IsRectInside}
use Rattle.fixed_point.specs.declared.plane.Rectangle.{Rectangle}
use Rattle.fixed_point.specs.Text.{fixed_value}
use Rattle.class_config.specs.Forms.{is_class_name}
use Rattle.class_config.specs.Classes.{is_clearance}
use Rattle.class_config.specs.declared.table.PassabilityClass.{PassabilityClass}
use Rattle.obstruction_shapes.specs.declared.shapes.Shape.{Shape}
use Rattle.obstruction_shapes.specs.declared.shapes.Shape.TheVariants.{Unit as UnitShape, Square as SquareShape}
use Rattle.goal_shapes.specs.declared.goals.Goal.{Goal}
use Rattle.goal_shapes.specs.declared.goals.Goal.TheVariants.{Point, Circle, NotCircle, Square, NotSquare}
use Rattle.goal_shapes.specs.declared.goals.GoalSpec.{GoalSpec}
use Rattle.goal_shapes.specs.declared.goals.GoalSpec.TheVariants.{Plain, Obstruction as ByObstruction}
use Rattle.posts.specs.declared.posts.Post.{Post}
use Rattle.posts.specs.declared.edits.Edit.TheVariants.{Add, Remove, Move}
use Rattle.posts.specs.declared.posts.Post.TheVariants.{Edit as Edits, Ask as Asks}
use Rattle.posts.specs.declared.posts.PathRequest.{PathRequest}
use Rattle.posts.specs.declared.posts.RegionQuery.{RegionQuery}
use Rattle.posts.specs.declared.posts.Request.TheVariants.{Path, Region}
use Rattle.posts.specs.Maps.{Map}
use Rattle.script_text.specs.declared.forms.CallerPost.{CallerPost}

-- ---- objects

-- the members of the one, and then those of the other
abbrev pub joined : Members → Members → Members
joined no_members others = others
joined (member key d ms) others = member key d (joined ms others)

-- the members have these keys and under them these values, in any order: the first stands somewhere, and the others are
-- the rest
abbrev pub AreMembers : List (List ℕ) → List Data → Members → Type 0
AreMembers [] [] ms = ms ≡ no_members
AreMembers (key ∷ keys) (d ∷ ds) ms =
    (before : Members) × (after : Members) × (ms ≡ joined before (member key d after)) × AreMembers keys ds (joined before after)
AreMembers [] (d ∷ ds) ms = ⊥
AreMembers (key ∷ keys) [] ms = ⊥

-- an object with exactly these keys, and under them these values
pub record IsObject (keys : List (List ℕ)) (values : List Data) (d : Data) : Type 0 where
  pub members : Members
  pub is : d ≡ object members
  pub are : AreMembers keys values members

-- ---- the keys of each form

abbrev pub map_keys : List (List ℕ)
map_keys = codes "version" ∷ codes "size" ∷ codes "callers" ∷ codes "classes" ∷ []

abbrev pub base_keys : List (List ℕ)
base_keys = codes "base" ∷ []

-- those of an add line with its shape under this key, without a mask and with one
abbrev pub bare_add_keys : List ℕ → List (List ℕ)
bare_add_keys shape = codes "caller" ∷ codes "add" ∷ shape ∷ []

abbrev pub masked_add_keys : List ℕ → List (List ℕ)
masked_add_keys shape = codes "caller" ∷ codes "add" ∷ shape ∷ codes "mask" ∷ []

-- in a script of this version: under versions 2 and 3 there is a mask
abbrev pub add_keys : ℕ → List ℕ → List (List ℕ)
add_keys version shape = codes "caller" ∷ codes "add" ∷ shape ∷ (if nat_le 2 version then codes "mask" ∷ [] else [])

abbrev pub remove_keys : List (List ℕ)
remove_keys = codes "caller" ∷ codes "remove" ∷ []

abbrev pub move_keys : List (List ℕ)
move_keys = codes "caller" ∷ codes "move" ∷ codes "to" ∷ []

abbrev pub path_keys : List (List ℕ)
path_keys = codes "caller" ∷ codes "path" ∷ codes "from" ∷ codes "goal" ∷ []

abbrev pub region_keys : List (List ℕ)
region_keys = codes "caller" ∷ codes "region" ∷ codes "at" ∷ []

abbrev pub end_keys : List (List ℕ)
end_keys = codes "end" ∷ []

-- ---- values

abbrev pub IsWholeNumber : ℕ → Data → Type 0
IsWholeNumber n d = d ≡ number (unsigned n)

-- an obstruction number
abbrev pub IsNumber : ℕ → Data → Type 0
IsNumber id d = IsWholeNumber id d × (id ≤ 4294967295)

-- a string that has this value
abbrev pub IsDecimal : ℤ → Data → Type 0
IsDecimal raw d = (text : List ℕ) × (d ≡ string text) × (fixed_value text ≡ Some raw)

abbrev pub IsName : List ℕ → Data → Type 0
IsName name d = (d ≡ string name) × IsTrue (is_class_name name)

-- each value says the thing in its place, and there are as many
abbrev pub SayEach : {X : Type 0} → (X → Data → Type 0) → List X → List Data → Type 0
SayEach Says [] [] = ⊤
SayEach Says (x ∷ xs) (d ∷ ds) = Says x d × SayEach Says xs ds
SayEach Says [] (d ∷ ds) = ⊥
SayEach Says (x ∷ xs) [] = ⊥

-- an array whose items say these things
abbrev pub IsArray : {X : Type 0} → (X → Data → Type 0) → List X → Data → Type 0
IsArray Says xs d = (items : List Data) × (d ≡ array (items_of items)) × SayEach Says xs items

-- ---- the map line and base lines

-- an object with the name of a class and its clearance, which is from 0 to 64 navcells
pub record IsClassEntry (class : PassabilityClass) (d : Data) : Type 0 where
  pub name : Data
  pub clearance : Data
  pub keys : IsObject (codes "name" ∷ codes "clearance" ∷ []) (name ∷ clearance ∷ []) d
  pub says_name : IsName class.name name
  pub says_clearance : IsDecimal class.clearance clearance
  pub limits : IsTrue (is_clearance class.clearance)

-- no two classes have one name
abbrev pub HaveOwnNames : List PassabilityClass → Type 0
HaveOwnNames [] = ⊤
HaveOwnNames (class ∷ classes) = All (λ other. other.name ≢ class.name) classes × HaveOwnNames classes

-- an array of 1 to 16 classes, each of another name
pub record IsClassTable (classes : List PassabilityClass) (d : Data) : Type 0 where
  pub says : IsArray IsClassEntry classes d
  pub some : 1 ≤ length classes
  pub few : length classes ≤ 16
  pub own_names : HaveOwnNames classes

pub record IsMapLine (m : Map) (d : Data) : Type 0 where
  pub version : Data
  pub size : Data
  pub callers : Data
  pub classes : Data
  pub keys : IsObject map_keys (version ∷ size ∷ callers ∷ classes ∷ []) d
  pub says_version : IsWholeNumber m.version version
  pub oldest : 1 ≤ m.version
  pub newest : m.version ≤ 3
  pub says_size : IsArray IsWholeNumber (m.size.w ∷ m.size.h ∷ []) size
  pub says_callers : IsWholeNumber m.callers callers
  pub some : 1 ≤ m.callers
  pub few : m.callers ≤ 64
  pub says_classes : IsClassTable m.classes classes
  pub no_base : m.base ≡ []

-- an array of five whole numbers: a rectangle of the map, and a mask
pub record IsEntry (size : Size) (entry : Rect × ℕ) (d : Data) : Type 0 where
  pub says : IsArray IsWholeNumber (entry.0.i0 ∷ entry.0.j0 ∷ entry.0.i1 ∷ entry.0.j1 ∷ entry.1 ∷ []) d
  pub inside : IsRectInside size entry.0
  pub mask : entry.1 ≤ 65535

abbrev pub IsBaseLine : Size → List (Rect × ℕ) → Data → Type 0
IsBaseLine size rects d = (base : Data) × IsObject base_keys (base ∷ []) d × IsArray (IsEntry size) rects base

-- ---- goals

-- an object with one key and under it these decimals
abbrev pub HasDecimals : List ℕ → List ℤ → Data → Type 0
HasDecimals key raws d = (shape : Data) × IsObject (key ∷ []) (shape ∷ []) d × IsArray IsDecimal raws shape

-- the six decimals of a rectangle
abbrev pub rectangle_decimals : Rectangle → List ℤ
rectangle_decimals rectangle =
    rectangle.x ∷ rectangle.z ∷ rectangle.ux ∷ rectangle.uz ∷ rectangle.hw ∷ rectangle.hh ∷ []

abbrev pub IsPlainGoal : Goal → Data → Type 0
IsPlainGoal (Point x z) d = HasDecimals (codes "point") (x ∷ z ∷ []) d
IsPlainGoal (Circle x z r) d = HasDecimals (codes "circle") (x ∷ z ∷ r ∷ []) d
IsPlainGoal (NotCircle x z r) d = HasDecimals (codes "not-circle") (x ∷ z ∷ r ∷ []) d
IsPlainGoal (Square rectangle) d = HasDecimals (codes "square") (rectangle_decimals rectangle) d
IsPlainGoal (NotSquare rectangle) d = HasDecimals (codes "not-square") (rectangle_decimals rectangle) d

-- a goal that is an obstruction, under version 3: an array of its number and the decimal by which it grows
pub record IsGrownGoal (version id : ℕ) (grow : ℤ) (d : Data) : Type 0 where
  pub newest : 3 ≤ version
  pub obstruction : Data
  pub number : Data
  pub distance : Data
  pub keys : IsObject (codes "obstruction" ∷ []) (obstruction ∷ []) d
  pub items : obstruction ≡ array (items_of (number ∷ distance ∷ []))
  pub says_number : IsNumber id number
  pub says_distance : IsDecimal grow distance

abbrev pub IsGoal : ℕ → GoalSpec → Data → Type 0
IsGoal version (Plain goal) d = IsPlainGoal goal d
IsGoal version (ByObstruction id grow) d = IsGrownGoal version id grow d

-- ---- post lines

abbrev pub shape_key : Shape → List ℕ
shape_key (UnitShape x z half) = codes "unit"
shape_key (SquareShape rectangle) = codes "square"

abbrev pub shape_decimals : Shape → List ℤ
shape_decimals (UnitShape x z half) = x ∷ z ∷ half ∷ []
shape_decimals (SquareShape rectangle) = rectangle_decimals rectangle

-- the keys of an add line: from version 2 on it has a mask, and before it the mask is of every class
abbrev pub HasAddKeys : ℕ → ℕ → List ℕ → Data → Data → Data → Data → Type 0
HasAddKeys version mask key caller add shape d =
    ((version < 2) × (mask ≡ 65535) × IsObject (bare_add_keys key) (caller ∷ add ∷ shape ∷ []) d)
    ⊎ ((2 ≤ version) × ((bits : Data) × IsObject (masked_add_keys key) (caller ∷ add ∷ shape ∷ bits ∷ []) d
    × IsWholeNumber mask bits × (mask ≤ 65535)))

-- what stands under the key of the caller is the caller's number, below the number of callers
abbrev pub IsCaller : ℕ → ℕ → Data → Type 0
IsCaller callers caller d = IsWholeNumber caller d × (caller < callers)

-- the line of a request for a path, with what stands under each of its keys
pub record IsPathLine (version callers caller : ℕ) (request : PathRequest) (d : Data) : Type 0 where
  pub who : Data
  pub path : Data
  pub from : Data
  pub to : Data
  pub keys : IsObject path_keys (who ∷ path ∷ from ∷ to ∷ []) d
  pub says_caller : IsCaller callers caller who
  pub says_class : IsName request.class path
  pub says_start : IsArray IsDecimal (request.x ∷ request.z ∷ []) from
  pub says_goal : IsGoal version request.goal to

-- the line of a region query
pub record IsRegionLine (callers caller : ℕ) (query : RegionQuery) (d : Data) : Type 0 where
  pub who : Data
  pub region : Data
  pub place : Data
  pub keys : IsObject region_keys (who ∷ region ∷ place ∷ []) d
  pub says_caller : IsCaller callers caller who
  pub says_class : IsName query.class region
  pub says_place : IsArray IsDecimal (query.x ∷ query.z ∷ []) place

abbrev pub IsPostLine : ℕ → ℕ → ℕ → Post → Data → Type 0
IsPostLine version callers caller (Edits (Add id o)) d =
    (c : Data) × (add : Data) × (shape : Data) × HasAddKeys version o.mask (shape_key o.shape) c add shape d
    × IsCaller callers caller c × IsNumber id add × IsArray IsDecimal (shape_decimals o.shape) shape
IsPostLine version callers caller (Edits (Remove id)) d =
    (c : Data) × (remove : Data) × IsObject remove_keys (c ∷ remove ∷ []) d
    × IsCaller callers caller c × IsNumber id remove
IsPostLine version callers caller (Edits (Move id x z)) d =
    (c : Data) × (move : Data) × (to : Data) × IsObject move_keys (c ∷ move ∷ to ∷ []) d
    × IsCaller callers caller c × IsNumber id move × IsArray IsDecimal (x ∷ z ∷ []) to × (3 ≤ version)
IsPostLine version callers caller (Asks (Path request)) d = IsPathLine version callers caller request d
IsPostLine version callers caller (Asks (Region query)) d = IsRegionLine callers caller query d

-- ---- the end line

abbrev pub IsEndLine : ℕ → Data → Type 0
IsEndLine turn d = (end : Data) × IsObject end_keys (end ∷ []) d × IsWholeNumber turn end

-- ---- all lines

-- what a line says
pub data Line : Type 0 where
  map_line : Map → Line
  base_line : List (Rect × ℕ) → Line
  post_line : CallerPost → Line
  end_line : ℕ → Line

-- the value is a line that says this, of a script of this version with so many callers, on a map of this size
abbrev pub IsLine : ℕ → ℕ → Size → Line → Data → Type 0
IsLine version callers size (map_line m) d = IsMapLine m d
IsLine version callers size (base_line rects) d = IsBaseLine size rects d
IsLine version callers size (post_line said) d = IsPostLine version callers said.caller said.post d
IsLine version callers size (end_line turn) d = IsEndLine turn d
