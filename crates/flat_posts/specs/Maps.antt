-- The flat form of a map: its size and its callers, its classes and its base rectangles.
use Rattle.std.specs.Prelude.{ℕ, ◌≡◌, List, length, IsTrue}
use Rattle.std.specs.List.{AllZip}
use Rattle.nav_types.specs.declared.cells.Rect.{Rect}
use Rattle.nav_types.specs.declared.cells.Size.{Size}
use Rattle.class_config.specs.declared.table.PassabilityClass.{PassabilityClass}
use Rattle.class_config.specs.Classes.{is_table}
use Rattle.class_config.specs.Forms.{padded}
use Rattle.posts.specs.Maps.{Map, IsMap}
use Rattle.flat_posts.specs.declared.map_parts.FlatClass.{FlatClass}
use Rattle.flat_posts.specs.declared.map_parts.FlatRect.{FlatRect}
use Rattle.flat_posts.specs.declared.maps.FlatMap.{FlatMap}

-- a map's size in navcells and its number of callers
abbrev pub flat_map : Size → ℕ → FlatMap
flat_map size callers = record { width = size.w; height = size.h; callers = callers }

-- a class: its name with zeros behind it, the length of the name, and its clearance
abbrev pub flat_class : PassabilityClass → FlatClass
flat_class class = record { name = padded class.name; name_length = length class.name; clearance = class.clearance }

-- a base rectangle with its mask
abbrev pub flat_rect : Rect × ℕ → FlatRect
flat_rect entry = record {
  i0 = entry.0.i0;
  j0 = entry.0.j0;
  i1 = entry.0.i1;
  j1 = entry.0.j1;
  mask = entry.1;
  zero = 0;
}

-- the flat form is that of the class
abbrev pub IsClassOf : FlatClass → PassabilityClass → Type 0
IsClassOf flat class = flat ≡ flat_class class

-- the flat form is that of the rectangle with its mask
abbrev pub IsRectOf : FlatRect → Rect × ℕ → Type 0
IsRectOf flat entry = flat ≡ flat_rect entry

-- These numbers are the flat form of the map. It is of version 3, whose scripts have lines for each kind of posts, and it
-- keeps the limits of maps and of their classes.
pub record IsMapOf (flat : FlatMap) (flats : List FlatClass) (rects : List FlatRect) (map : Map) : Type 0 where
  pub version : map.version ≡ 3
  pub frame : flat ≡ flat_map map.size map.callers
  pub classes : AllZip IsClassOf flats map.classes
  pub base : AllZip IsRectOf rects map.base
  pub limits : IsMap map
  pub table : IsTrue (is_table map.classes)
