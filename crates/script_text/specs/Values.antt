-- The values in the lines of a script, over the reading of serde_json. Coordinates and lengths are raw fixed-point
-- numbers, of 65536 to a navcell.
use Rattle.std.specs.Prelude.{ℕ, ◌≤◌, ◌&&◌, ◌==◌, List, length, Bool, false, nat_le, nat_lt, ℤ, if◌then◌else◌, Option, Some, None, option_map, option_and_then}
use Rattle.std.specs.Option.{option_map_or}
use Rattle.std.proofs.Math.Decide.{dec_le}
use Rattle.serde_json.specs.Data.{Data}
use Rattle.serde_json.specs.Find.{get, at, as_number, as_u64, as_str, as_array}
use Rattle.nav_types.specs.declared.limits.TheConstants.{MAX_SIDE}
use Rattle.nav_types.specs.declared.cells.Size.{Size}
use Rattle.nav_types.specs.Side.{IsSide}
use Rattle.fixed_point.specs.Text.{fixed_value, some_if}
use Rattle.class_config.specs.Forms.{is_class_name}
use Rattle.class_config.specs.Classes.{list_of}
use Rattle.fixed_point.specs.declared.plane.Rectangle.{Rectangle}

-- ---- single values

-- a whole number of 64 bits
abbrev pub whole : Data → Option ℕ
whole d = option_and_then as_u64 (as_number d)

-- a whole number from `least` to `most`
unfoldable pub whole_in : ℕ → ℕ → Data → Option ℕ
whole_in least most d = option_and_then (λ n. some_if (nat_le least n && nat_le n most) n) (whole d)

-- a whole number below a limit
unfoldable pub whole_below : ℕ → Data → Option ℕ
whole_below limit d = option_and_then (λ n. some_if (nat_lt n limit) n) (whole d)

-- an obstruction number
abbrev pub obstruction_number : Data → Option ℕ
obstruction_number d = whole_in 0 4294967295 d

-- a decimal: a string that has a value as a fixed-point text
unfoldable pub decimal : Data → Option ℤ
decimal d = option_and_then fixed_value (as_str d)

-- a class name: a string of the form of one
unfoldable pub class_name : Data → Option (List ℕ)
class_name d = option_and_then (λ name. some_if (is_class_name name) name) (as_str d)

-- the value that stands under a key
abbrev pub under : {T : Type 0} → (Data → Option T) → List ℕ → Data → Option T
under value_of key d = option_and_then value_of (get key d)

-- ---- arrays

-- the items of an array
unfoldable pub array_items : Data → Option (List Data)
array_items d = option_map list_of (as_array d)

-- an array of exactly so many items
unfoldable pub has_items : ℕ → Data → Bool
has_items count d = option_map_or (λ items. length items == count) (array_items d) false

-- the whole number and the decimal at a place of an array
abbrev pub whole_at : ℕ → Data → Option ℕ
whole_at place d = option_and_then whole (at place d)

abbrev pub decimal_at : ℕ → Data → Option ℤ
decimal_at place d = option_and_then decimal (at place d)

-- two values, and three, where each is there
abbrev pub both : {X Y : Type 0} → Option X → Option Y → Option (X × Y)
both (Some x) (Some y) = Some (x, y)
both _ _ = None

abbrev pub all_three : {X Y Z : Type 0} → Option X → Option Y → Option Z → Option (X × Y × Z)
all_three (Some x) (Some y) (Some z) = Some (x, y, z)
all_three _ _ _ = None

-- an array of two decimals x, z
unfoldable pub point_of : Data → Option (ℤ × ℤ)
point_of d = if has_items 2 d then both (decimal_at 0 d) (decimal_at 1 d) else None

-- an array of three decimals: x, z and a length
unfoldable pub round_of : Data → Option (ℤ × ℤ × ℤ)
round_of d = if has_items 3 d then all_three (decimal_at 0 d) (decimal_at 1 d) (decimal_at 2 d) else None

abbrev pub rectangle_with : Option ℤ → Option ℤ → Option ℤ → Option ℤ → Option ℤ → Option ℤ → Option Rectangle
rectangle_with (Some x) (Some z) (Some ux) (Some uz) (Some hw) (Some hh) = Some (record { x = x; z = z; ux = ux; uz = uz; hw = hw; hh = hh })
rectangle_with _ _ _ _ _ _ = None

-- an array of six decimals x, z, ux, uz, hw, hh
unfoldable pub rectangle_of : Data → Option Rectangle
rectangle_of d = if has_items 6 d
    then rectangle_with (decimal_at 0 d) (decimal_at 1 d) (decimal_at 2 d) (decimal_at 3 d) (decimal_at 4 d) (decimal_at 5 d)
    else None

-- ---- sizes

-- whether a number is a side of a map
abbrev pub side_by : (side : ℕ) → Dec (1 ≤ side) → Dec (side ≤ MAX_SIDE) → Dec (IsSide side)
side_by side (yes some) (yes few) = yes (record { some = some; few = few })
side_by side (yes some) (no many) = no (λ is. many is.few)
side_by side (no none) few = no (λ is. none is.some)

abbrev pub is_side : (side : ℕ) → Dec (IsSide side)
is_side side = side_by side (dec_le 1 side) (dec_le side MAX_SIDE)

-- the size of two numbers, where each is a side
abbrev pub size_by : (w h : ℕ) → Dec (IsSide w) → Dec (IsSide h) → Option Size
size_by w h (yes wide) (yes high) = Some (record { w = w; h = h; wide = wide; high = high })
size_by w h _ _ = None

unfoldable pub size_with : ℕ → ℕ → Option Size
size_with w h = size_by w h (is_side w) (is_side h)

-- an array of two whole numbers w, h that are sides
unfoldable pub size_of : Data → Option Size
size_of d = if has_items 2 d then option_and_then (λ sides. size_with sides.0 sides.1) (both (whole_at 0 d) (whole_at 1 d)) else None
