-- A map: its size, its callers, its passability classes and what is impassable from the start.
use Rattle.std.specs.Prelude.{ℕ, ◌≤◌, ◌++◌, List, All}
use Rattle.nav_types.specs.declared.limits.TheConstants.{MAX_CALLERS}
use Rattle.nav_types.specs.declared.cells.Rect.{Rect}
use Rattle.nav_types.specs.declared.cells.Size.{Size}
use Rattle.nav_types.specs.Cells.{IsRectInside}
use Rattle.class_config.specs.declared.table.PassabilityClass.{PassabilityClass}

-- a map: the version of its script, its size in navcells, how many callers it has, its passability classes in the
-- order of their numbers, and base rectangles, each with a mask whose bit k makes its cells impassable for class k
pub record Map : Type 0 where
  pub version : ℕ
  pub size : Size
  pub callers : ℕ
  pub classes : List PassabilityClass
  pub base : List (Rect × ℕ)

-- the map of these parts
abbrev pub map_of : ℕ → Size → ℕ → List PassabilityClass → List (Rect × ℕ) → Map
map_of version size callers classes base = record {
  version = version;
  size = size;
  callers = callers;
  classes = classes;
  base = base;
}

-- the map with more base rectangles behind its own
abbrev pub with_base : Map → List (Rect × ℕ) → Map
with_base map rects = record map { base = map.base ++ rects }

-- the limits of a map: script version 1 to 3, 1 to 64 callers, and base rectangles inside the map
pub record IsMap (map : Map) : Type 0 where
  pub oldest : 1 ≤ map.version
  pub newest : map.version ≤ 3
  pub some_caller : 1 ≤ map.callers
  pub few_callers : map.callers ≤ MAX_CALLERS
  pub base_inside : All (λ (entry : Rect × ℕ). IsRectInside map.size entry.0) map.base
