-- The passability classes of a map. A clearance is a raw number: 65536 are one navcell.
use Rattle.std.specs.Prelude.{ℕ, ◌*◌, ◌&&◌, List, [], ◌∷◌, length, Bool, true, not, nat_le, ℤ, pos, int_le, if◌then◌else◌, Option, Some, None, is_some, option_map, option_and_then, slice_get, codes, bytes_eq}
use Rattle.std.specs.List.{list_all, list_any, filter_map}
use Rattle.nav_types.specs.declared.limits.TheConstants.{MAX_CLEARANCE}
use Rattle.serde_json.specs.Data.{Data, Items, no_items, item}
use Rattle.serde_json.specs.Find.{as_array}
use Rattle.fixed_point.specs.Text.{fixed_value, some_if}
use Rattle.class_config.specs.declared.table.PassabilityClass.{PassabilityClass}
use Rattle.class_config.specs.Forms.{has_keys, text_under, is_class_name}

-- ---- what a table keeps

-- a clearance: from 0 to 64 navcells
abbrev pub is_clearance : ℤ → Bool
is_clearance raw = int_le (pos 0) raw && int_le raw (pos (MAX_CLEARANCE * 65536))

-- a class that a map may have: its name is a class name and its clearance is one
abbrev pub is_class : PassabilityClass → Bool
is_class class = is_class_name class.name && is_clearance class.clearance

-- whether one of the classes has this name
abbrev pub has_name : List ℕ → List PassabilityClass → Bool
has_name name classes = list_any (λ class. bytes_eq class.name name) classes

-- no two classes have the same name
abbrev pub are_distinct : List PassabilityClass → Bool
are_distinct [] = true
are_distinct (class ∷ others) = not (has_name class.name others) && are_distinct others

-- the classes of a map: 1 to 16, with distinct names
abbrev pub is_table : List PassabilityClass → Bool
is_table classes = nat_le 1 (length classes) && nat_le (length classes) 16 && list_all is_class classes
    && are_distinct classes

-- the name and the clearance of a class by its number
abbrev pub name_at : List PassabilityClass → ℕ → Option (List ℕ)
name_at classes class = option_map (λ found. found.name) (slice_get classes class)

abbrev pub clearance_at : List PassabilityClass → ℕ → Option ℤ
clearance_at classes class = option_map (λ found. found.clearance) (slice_get classes class)

-- ---- reading

-- the clearance that the string under `clearance` writes
abbrev pub clearance_under : Data → Option ℤ
clearance_under d = option_and_then fixed_value (text_under (codes "clearance") d)

-- the class of this name and this clearance, where it may be one
abbrev pub class_with : Option (List ℕ) → Option ℤ → Option PassabilityClass
class_with (Some name) (Some raw) =
    some_if (is_class_name name && is_clearance raw) (record { name = name; clearance = raw })
class_with _ _ = None

-- the class that an object with exactly the keys `name` and `clearance` describes
abbrev pub class_of : Data → Option PassabilityClass
class_of d = if has_keys (codes "name" ∷ codes "clearance" ∷ []) d
    then class_with (text_under (codes "name") d) (clearance_under d) else None

-- the items of an array
abbrev pub list_of : Items → List Data
list_of no_items = []
list_of (item d ds) = d ∷ list_of ds

-- 1 to 16 items, each of them a class, with distinct names
abbrev pub are_classes : List Data → Bool
are_classes items = nat_le 1 (length items) && nat_le (length items) 16
    && list_all (λ d. is_some (class_of d)) items && are_distinct (filter_map class_of items)

-- the classes that an array of classes describes, in its order
abbrev pub classes_of : Data → Option (List PassabilityClass)
classes_of d = option_and_then (λ items. some_if (are_classes items) (filter_map class_of items))
    (option_map list_of (as_array d))
