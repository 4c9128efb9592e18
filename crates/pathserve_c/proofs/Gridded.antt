-- Maps whose terrain is a grid of masks.
use Rattle.std.proofs.Common.{◌≡◌, ◌≢◌, ℕ, ◌*◌, List, [], ◌∷◌, ◌++◌, length, All, refl, sym, ap, subst, ◌∙◌}
use Rattle.std.specs.List.{AllZip}
use Rattle.std.proofs.lemmas.List.Elements.{All-nil}
use Rattle.nav_types.specs.declared.cells.Rect.{Rect}
use Rattle.nav_types.specs.Cells.{IsRectInside}
use Rattle.posts.specs.Maps.{Map, with_base}
use Rattle.flat_posts.specs.declared.map_parts.FlatClass.{FlatClass}
use Rattle.flat_posts.specs.declared.maps.FlatMap.{FlatMap}
use Rattle.flat_posts.specs.Maps.{IsMapOf, IsRectOf}
use Rattle.pathserve_c.specs.Grids.{AreRectsOf, IsGridMapOf}

none_of : (rects : List (Rect × ℕ)) → AllZip IsRectOf [] rects → rects ≡ []
none_of [] are = refl
none_of (rect ∷ rects) are = absurd are

-- a map without base rectangles, to which those of the grid were added
pub grid_map_of : (frame : FlatMap) (classes : List FlatClass) (masks : List ℕ) (read made : Map) (rects : List (Rect × ℕ)) → IsMapOf frame classes [] read
    → length masks ≡ read.size.w * read.size.h → All (λ (entry : Rect × ℕ). IsRectInside read.size entry.0) rects → AreRectsOf read.size masks rects
    → made ≡ with_base read rects → IsGridMapOf frame classes masks made
grid_map_of frame classes masks read made rects is count inside grid added =
    let nothing = none_of read.base is.base in
    let l = is.limits in
    subst (IsGridMapOf frame classes masks) (sym added) (record {
      rest = record {
        version = is.version;
        frame = is.frame;
        classes = is.classes;
        base = tt;
        limits = record {
          oldest = l.oldest;
          newest = l.newest;
          some_caller = l.some_caller;
          few_callers = l.few_callers;
          base_inside = All-nil (λ (entry : Rect × ℕ). IsRectInside read.size entry.0);
        };
        table = is.table;
      };
      count = count;
      inside = subst (λ (base : List (Rect × ℕ)). All (λ (entry : Rect × ℕ). IsRectInside read.size entry.0) (base ++ rects)) (sym nothing) inside;
      grid = subst (λ (base : List (Rect × ℕ)). AreRectsOf read.size masks (base ++ rects)) (sym nothing) grid;
    })

-- numbers that are no map are none with a grid either
pub no_grid_map : (frame : FlatMap) (classes : List FlatClass) (masks : List ℕ) → ((map : Map) → ¬ IsMapOf frame classes [] map)
    → (map : Map) → ¬ IsGridMapOf frame classes masks map
no_grid_map frame classes masks none map is = none (record map { base = [] }) is.rest

-- and neither is a grid with too many masks, or too few
pub no_grid : (frame : FlatMap) (classes : List FlatClass) (masks : List ℕ) (read : Map) → IsMapOf frame classes [] read → length masks ≢ read.size.w * read.size.h
    → (map : Map) → ¬ IsGridMapOf frame classes masks map
no_grid frame classes masks read has differs map is =
    let same = sym is.rest.frame ∙ has.frame in
    let width : map.size.w ≡ read.size.w = ap (λ (f : FlatMap). f.width) same in
    let height : map.size.h ≡ read.size.h = ap (λ (f : FlatMap). f.height) same in
    differs (is.count ∙ (λ i. width i * height i))
