-- Numbers are one map at most.
use Rattle.std.proofs.Common.{◌≡◌, ◌-◌, ℕ, ◌&&◌, true, List, length, replicate, nat_le, sym, ap, ◌∙◌, IsTrue, ℤ}
use Rattle.std.specs.Prelude.{All, take}
use Rattle.std.specs.List.{AllZip, list_all}
use Rattle.std.proofs.lemmas.Bool.{and_parts}
use Rattle.std.proofs.lemmas.List.Sums.{AllPass-from_list_all}
use Rattle.std.proofs.Math.Seq.{take-append_seam}
use Rattle.nav_types.specs.declared.cells.Rect.{Rect}
use Rattle.nav_types.specs.declared.cells.Size.{Size}
use Rattle.nav_types.proofs.Sizes.{same_size}
use Rattle.class_config.specs.declared.table.PassabilityClass.{PassabilityClass}
use Rattle.class_config.specs.Classes.{is_class, is_table, are_distinct}
use Rattle.class_config.specs.Forms.{is_class_name}
use Rattle.posts.specs.Maps.{Map, map_of}
use Rattle.flat_posts.specs.declared.map_parts.FlatClass.{FlatClass}
use Rattle.flat_posts.specs.declared.map_parts.FlatRect.{FlatRect}
use Rattle.flat_posts.specs.Maps.{flat_class, flat_map, IsClassOf, IsRectOf, IsMapOf}
use Rattle.flat_posts.specs.declared.maps.FlatMap.{FlatMap}
use Rattle.flat_posts.proofs.ReadLists.{zip_one}

abbrev named : ℤ → List ℕ → PassabilityClass
named clearance name = record { name = name; clearance = clearance }

abbrev class_back : FlatClass → PassabilityClass
class_back flat = named flat.clearance (take flat.name_length flat.name)

class_back-flat_class : (class : PassabilityClass) → class_back (flat_class class) ≡ class
class_back-flat_class class = ap (named class.clearance) (take-append_seam class.name (replicate (64 - length class.name) 0))

class_one : (flat : FlatClass) (a b : PassabilityClass) → IsClassOf flat a → IsClassOf flat b → a ≡ b
class_one flat a b ia ib = sym (class_back-flat_class a) ∙ ap class_back (sym ia ∙ ib) ∙ class_back-flat_class b

pub classes_one : (flats : List FlatClass) (a b : List PassabilityClass) → AllZip IsClassOf flats a → AllZip IsClassOf flats b → a ≡ b
classes_one flats a b = zip_one IsClassOf class_one flats a b

abbrev rect_back : FlatRect → Rect × ℕ
rect_back flat = (record { i0 = flat.i0; j0 = flat.j0; i1 = flat.i1; j1 = flat.j1 }, flat.mask)

rect_one : (flat : FlatRect) (a b : Rect × ℕ) → IsRectOf flat a → IsRectOf flat b → a ≡ b
rect_one flat a b ia ib = ap rect_back (sym ia ∙ ib)

rects_one : (flats : List FlatRect) (a b : List (Rect × ℕ)) → AllZip IsRectOf flats a → AllZip IsRectOf flats b → a ≡ b
rects_one flats a b = zip_one IsRectOf rect_one flats a b

-- the classes of a table have names
pub names_in : (classes : List PassabilityClass) → is_table classes ≡ true → All (λ (class : PassabilityClass). IsTrue (is_class_name class.name)) classes
names_in classes table k d lt =
    let few = nat_le 1 (length classes) && nat_le (length classes) 16 in
    let first = and_parts (few && list_all is_class classes) (are_distinct classes) table in
    let passed = AllPass-from_list_all is_class classes (and_parts few (list_all is_class classes) first.0).1 in
    (and_parts _ _ (passed k d lt)).0

-- one frame has one size and one number of callers
frame_one : (a b : Size) (callers others : ℕ) → flat_map a callers ≡ flat_map b others → (a ≡ b) × (callers ≡ others)
frame_one a b callers others same =
    (same_size a b (ap (λ (f : FlatMap). f.width) same) (ap (λ (f : FlatMap). f.height) same), ap (λ (f : FlatMap). f.callers) same)

map_is : (a : Map) (version callers : ℕ) (size : Size) (classes : List PassabilityClass) (base : List (Rect × ℕ)) → a.version ≡ version → a.size ≡ size → a.callers ≡ callers
    → a.classes ≡ classes → a.base ≡ base → a ≡ map_of version size callers classes base
map_is a version callers size classes base ev es ec ek eb = λ i. map_of (ev i) (es i) (ec i) (ek i) (eb i)

-- the map that the numbers are is made of what its parts are
pub map_of_parts : (frame : FlatMap) (classes : List FlatClass) (base : List FlatRect) (map : Map) (size : Size) (callers : ℕ) (table : List PassabilityClass) (rects : List (Rect × ℕ))
    → IsMapOf frame classes base map → frame ≡ flat_map size callers → AllZip IsClassOf classes table → AllZip IsRectOf base rects
    → map ≡ map_of 3 size callers table rects
map_of_parts frame classes base map size callers table rects is framed classed based =
    let frames = frame_one map.size size map.callers callers (sym is.frame ∙ framed) in
    map_is map 3 callers size table rects is.version frames.0 frames.1 (classes_one classes map.classes table is.classes classed) (rects_one base map.base rects is.base based)

pub one_map-IsMapOf : (frame : FlatMap) (classes : List FlatClass) (base : List FlatRect) (map other : Map) → IsMapOf frame classes base map → IsMapOf frame classes base other → map ≡ other
one_map-IsMapOf frame classes base map other is too =
    map_of_parts frame classes base map other.size other.callers other.classes other.base is too.frame too.classes too.base
    ∙ sym (map_of_parts frame classes base other other.size other.callers other.classes other.base too too.frame too.classes too.base)
