-- Cells that a map has not, and the words of its rows.
use Rattle.std.proofs.Common.{◌≡◌, ◌+◌, ◌/◌, ◌%◌, ◌<◌, ◌≤◌, ◌&&◌, ℕ, Bool, List, ◌++◌, length, IsTrue, IsFalse, nat_lt, if◌then◌else◌, refl, sym, ap, subst, ◌∙◌, rules, arith}
use Rattle.std.specs.Prelude.{take, slice_index}
use Rattle.std.specs.Int.{bit_at, div_ceil}
use Rattle.std.proofs.lemmas.Bool.{and_parts, both_ways, false_from_ne_true, ltb-true}
use Rattle.std.proofs.lemmas.List.{get_or_append_left, get_or-take, length-take}
use Rattle.std.proofs.Math.Nat.{min-eq_left}
use Rattle.lane_rows.specs.Rows.{one_if}
use Rattle.nav_types.specs.declared.cells.Cell.{Cell}
use Rattle.nav_types.specs.Cells.{IsInside, cell_at, chunk_of}
use Rattle.nav_types.specs.Regions.{HasArea, HasRegion}
use Rattle.nav_types.proofs.Regions.{lies_in}
use Rattle.class_planes.specs.Planes.{AreFreeBits}
use Rattle.grid_versions.specs.Passing.{passable_at}
use Rattle.grid_versions.specs.inner.PassingLaws.{passes_within}
use Rattle.grid_versions.specs.Versions.{MapState, passes_of}
use Rattle.pathserve_c.specs.Handles.{words_of}

-- the map has not both the class and the cell
abbrev pub IsNoPlace : MapState → ℕ → Cell → Type 0
IsNoPlace version k cell = k < length version.map.classes → IsInside version.map.size cell → ⊥

-- only classes of the map have passable cells
pub passes_class : (version : MapState) (k : ℕ) (cell : Cell) → IsTrue (passes_of version k cell) → k < length version.map.classes
unfolding passable_at
passes_class version k cell passes = search rules

pub outside : (version : MapState) (k : ℕ) (cell : Cell) → IsNoPlace version k cell → IsFalse (passes_of version k cell)
outside version k cell none = false_from_ne_true (passes_of version k cell) (λ yes. none (passes_class version k cell yes) (passes_within version k cell yes))

pub no_region : (version : MapState) (k : ℕ) (cell : Cell) → IsNoPlace version k cell → HasRegion (passes_of version k) (chunk_of cell) cell 0
no_region version k cell none = record {
  blocked = λ _. refl;
  placed = λ yes. absurd (both_ways (passes_of version k cell) (outside version k cell none)
      (lies_in (passes_of version k) (chunk_of cell) cell yes).passable);
}

pub no_area : (version : MapState) (k : ℕ) (cell : Cell) → IsNoPlace version k cell → HasArea (passes_of version k) cell 0
no_area version k cell none = record {
  blocked = λ _. refl;
  placed = λ yes. absurd (both_ways (passes_of version k cell) (outside version k cell none) yes);
}

pub no_words : (version : MapState) (k j : ℕ) → IsNoPlace version k (cell_at 0 j) → words_of version k j ≡ 0
no_words version k j none =
    let absent = false_from_ne_true (nat_lt k (length version.map.classes) && nat_lt j version.map.size.h) (λ yes.
    let parts = and_parts (nat_lt k (length version.map.classes)) (nat_lt j version.map.size.h) yes in
    none (ltb-true k (length version.map.classes) parts.0)
    (record { column = version.map.size.wide.some; row = ltb-true j version.map.size.h parts.1 })) in
    ap (λ (here : Bool). if here then div_ceil version.map.size.w 64 else 0) absent

-- the words that were copied have the bits of the row
pub first_bits : (free : ℕ → Bool) (row behind : List ℕ) (count : ℕ) → AreFreeBits free row → count ≤ length row
    → (i : ℕ) → i / 64 < count → bit_at (slice_index (take count row ++ behind) (i / 64)) (i % 64) ≡ one_if (free i)
first_bits free row behind count are within i early =
    let all : length (take count row) ≡ count = length-take count row ∙ min-eq_left within in
    ap (λ (word : ℕ). bit_at word (i % 64)) (get_or_append_left (take count row) behind 0 (i / 64) (subst (λ n. i / 64 < n) (sym all) early)
    ∙ get_or-take count row (i / 64) 0 early) ∙ are i

-- a row of a plane has the words
pub row_fits : (width : ℕ) → div_ceil width 64 ≤ width / 64 + 1
row_fits width = omega arith
