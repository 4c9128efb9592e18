-- The table of the forms of lines: the keys of each form, in their order, the versions that have it, and what must stand
-- under each key. What is read of a line, the cause of a bad one and the canonical text go by it. The keys of goals stand in
-- `Goals.antt`.
use Rattle.std.specs.Prelude.{ℕ, ◌&&◌, List, [], ◌∷◌, ◌++◌, map, nat_le, Bool, true, Option, if◌then◌else◌, codes}
use Rattle.std.specs.List.{find}
use Rattle.std.proofs.Common.{refl}
use Rattle.std.proofs.lemmas.Bool.{leb-true}
use Rattle.serde_json.specs.Data.{Data}
use Rattle.nav_types.specs.declared.limits.TheConstants.{MAX_CALLERS, MAX_SIDE}
use Rattle.nav_types.specs.Side.{IsSide}
use Rattle.class_config.specs.Forms.{has_keys}
use Rattle.script_text.specs.declared.causes.keys.Key.{Key}
use Rattle.script_text.specs.declared.causes.keys.Key.TheVariants as key
use Rattle.script_text.specs.declared.causes.keys.Wanted.{Wanted}
use Rattle.script_text.specs.declared.causes.keys.Wanted.TheVariants.{Whole, Caller, Turn, Sides, Classes, Rectangles, ClassName, TwoDecimals, ThreeDecimals, SixDecimals, Goal}
use Rattle.script_text.specs.declared.table.Form.{Form}
use Rattle.script_text.specs.declared.table.Form.TheVariants as form
use Rattle.script_text.specs.declared.parts.Rules.{Rules}
use Rattle.script_text.specs.declared.versions.TheConstants.{NEWEST_VERSION}
use Rattle.script_text.specs.Goals.{goal_key_text, goal_wanted}

-- ---- keys

-- a key as it stands in a line
abbrev pub key_text : Key → List ℕ
key_text key.Version = codes "version"
key_text key.Size = codes "size"
key_text key.Callers = codes "callers"
key_text key.Classes = codes "classes"
key_text key.Base = codes "base"
key_text key.Caller = codes "caller"
key_text key.Add = codes "add"
key_text key.Unit = codes "unit"
key_text key.Square = codes "square"
key_text key.Mask = codes "mask"
key_text key.Remove = codes "remove"
key_text key.Move = codes "move"
key_text key.To = codes "to"
key_text key.Path = codes "path"
key_text key.From = codes "from"
key_text key.Goal = codes "goal"
key_text key.Region = codes "region"
key_text key.At = codes "at"
key_text key.End = codes "end"
key_text (key.OfGoal goal) = goal_key_text goal

-- a key as it stands in an object behind another: a comma (44), the key in quotes (34) and a colon (58)
abbrev pub member_text : List ℕ → List ℕ
member_text key = 44 ∷ 34 ∷ (key ++ 34 ∷ 58 ∷ [])

-- the keys of lines
abbrev pub line_keys : List Key
line_keys = key.Version ∷ key.Size ∷ key.Callers ∷ key.Classes ∷ key.Base ∷ key.Caller ∷ key.Add ∷ key.Unit ∷ key.Square ∷ key.Mask
    ∷ key.Remove ∷ key.Move ∷ key.To ∷ key.Path ∷ key.From ∷ key.Goal ∷ key.Region ∷ key.At ∷ key.End ∷ []

-- ---- forms

-- the forms, in the order in which that of a line is looked for
abbrev pub forms : List Form
forms = form.Path ∷ form.AddUnit ∷ form.AddSquare ∷ form.Remove ∷ form.Move ∷ form.Region ∷ form.End ∷ form.Base ∷ form.Map ∷ []

-- the keys of a form, in their order, where add lines have masks or have none
abbrev pub keys_by : Bool → Form → List Key
keys_by masks form.Map = key.Version ∷ key.Size ∷ key.Callers ∷ key.Classes ∷ []
keys_by masks form.Base = key.Base ∷ []
keys_by masks form.AddUnit = key.Caller ∷ key.Add ∷ key.Unit ∷ (if masks then key.Mask ∷ [] else [])
keys_by masks form.AddSquare = key.Caller ∷ key.Add ∷ key.Square ∷ (if masks then key.Mask ∷ [] else [])
keys_by masks form.Remove = key.Caller ∷ key.Remove ∷ []
keys_by masks form.Move = key.Caller ∷ key.Move ∷ key.To ∷ []
keys_by masks form.Path = key.Caller ∷ key.Path ∷ key.From ∷ key.Goal ∷ []
keys_by masks form.Region = key.Caller ∷ key.Region ∷ key.At ∷ []
keys_by masks form.End = key.End ∷ []

-- the form stands where there are moves or none
abbrev pub stands_by : Bool → Form → Bool
stands_by moves form.Move = moves
stands_by moves other = true

-- in a script of this version add lines have masks from version 2 on, and there are moves from version 3 on
abbrev pub keys_of : ℕ → Form → List Key
keys_of version f = keys_by (nat_le 2 version) f

abbrev pub stands_in : ℕ → Form → Bool
stands_in version f = stands_by (nat_le 3 version) f

-- the keys of a form as they stand in a line
abbrev pub texts_of : ℕ → Form → List (List ℕ)
texts_of version f = map key_text (keys_of version f)

-- the value is an object with exactly the keys of a form of this version
abbrev pub has_form : ℕ → Data → Form → Bool
has_form version d f = stands_in version f && has_keys (texts_of version f) d

-- the form of this version whose keys the value has; no two have the same keys
abbrev pub form_of : ℕ → Data → Option Form
form_of version d = find (has_form version d) forms

-- ---- what must stand under a key

-- an obstruction number
abbrev pub obstruction_wanted : Wanted
obstruction_wanted = Whole 0 4294967295

-- what must stand under a key in a script of these rules, among the lines of the turn of this number
abbrev pub wanted_of : Rules → ℕ → Key → Wanted
wanted_of rules turn key.Version = Whole 1 NEWEST_VERSION
wanted_of rules turn key.Size = Sides
wanted_of rules turn key.Callers = Whole 1 64
wanted_of rules turn key.Classes = Classes
wanted_of rules turn key.Base = Rectangles rules.size
wanted_of rules turn key.Caller = Caller rules.callers
wanted_of rules turn key.Add = obstruction_wanted
wanted_of rules turn key.Unit = ThreeDecimals
wanted_of rules turn key.Square = SixDecimals
wanted_of rules turn key.Mask = Whole 0 65535
wanted_of rules turn key.Remove = obstruction_wanted
wanted_of rules turn key.Move = obstruction_wanted
wanted_of rules turn key.To = TwoDecimals
wanted_of rules turn key.Path = ClassName
wanted_of rules turn key.From = TwoDecimals
wanted_of rules turn key.Goal = Goal rules.version
wanted_of rules turn key.Region = ClassName
wanted_of rules turn key.At = TwoDecimals
wanted_of rules turn key.End = Turn turn
wanted_of rules turn (key.OfGoal goal) = goal_wanted goal

-- the greatest side is a side of a map
abbrev pub greatest_side : IsSide MAX_SIDE
greatest_side = record { some = leb-true 1 MAX_SIDE refl; few = leb-true MAX_SIDE MAX_SIDE refl }

-- the rules before the map line is read: those of the newest version and of the largest map
abbrev pub widest : Rules
widest = record { size = record { w = MAX_SIDE; h = MAX_SIDE; wide = greatest_side; high = greatest_side }; version = NEWEST_VERSION; callers = MAX_CALLERS }
