-- The canonical lines of a map, its map line and its base lines, read back.
use Rattle.std.proofs.Common.{◌≡◌, ℕ, ◌<◌, ◌≤◌, ◌^◌, ◌&&◌, List, [], ◌∷◌, length, map, Bool, true, Some, is_some, nat_le, ℤ, pos, negsuc, refl, ap, ◌∙◌, arith, FitsSigned}
use Rattle.std.specs.Prelude.{All, codes}
use Rattle.std.specs.Int.{w32}
use Rattle.std.specs.List.{list_all, filter_map, cons_option}
use Rattle.std.proofs.lemmas.Bool.{and_parts, leb-true, and_from}
use Rattle.std.proofs.lemmas.List.{length-map}
use Rattle.std.proofs.lemmas.List.Elements.{All-nil, All-cons}
use Rattle.serde_json.specs.Data.{Data, object, no_members, member}
use Rattle.nav_types.specs.declared.cells.Rect.{Rect}
use Rattle.nav_types.specs.declared.cells.Size.{Size}
use Rattle.nav_types.specs.Cells.{IsRectInside}
use Rattle.fixed_point.proofs.ReadsBack.{reads_back}
use Rattle.fixed_point.specs.Text.{some_if}
use Rattle.class_config.specs.Forms.{is_class_name}
use Rattle.class_config.specs.Classes.{is_clearance, is_class, is_table, are_distinct, class_with, class_of, list_of, are_classes, classes_of}
use Rattle.class_config.specs.declared.table.PassabilityClass.{PassabilityClass}
use Rattle.posts.specs.Maps.{Map}
use Rattle.script_text.specs.Canon.{whole_json, list_json, wholes_json, class_json, map_json, entry_json, base_json}
use Rattle.script_text.specs.Forms.{map_of, base_of}
use Rattle.script_text.specs.Grammar.{IsObject, IsMapLine, IsEntry}
use Rattle.script_text.specs.ReadsBack.{IsMapValue}
use Rattle.script_text.proofs.BackForms.{ReadsTo}
use Rattle.script_text.proofs.BackTexts.{IsSimple, sorted, text-fixed_text, text-name, reads_sorted}
use Rattle.script_text.proofs.BackValues.{one_key, simple_list, sorted_list, array_list}
use Rattle.script_text.proofs.GrammarClasses.{classes-is}
use Rattle.script_text.proofs.GrammarLines.{map-from, base-from}
use Rattle.class_config.proofs.ClassLists.{list_of-items_of}

-- ---- base lines

abbrev IsEntryValue : Size → Rect × ℕ → Type 0
IsEntryValue size entry = IsRectInside size entry.0 × (entry.1 ≤ 65535)

simple_entry : (size : Size) (entry : Rect × ℕ) → IsEntryValue size entry → IsSimple (entry_json entry) 6
simple_entry size entry is =
    let rect = entry.0 in let inside = is.0 in let wide = size.wide.few in let high = size.high.few in
    let i0 = rect.i0 in let j0 = rect.j0 in let i1 = rect.i1 in let j1 = rect.j1 in let w = size.w in let h = size.h in (
      first_small i0 i1 w inside.columns inside.last_column wide,
      (
        first_small j0 j1 h inside.rows inside.last_row high,
        (last_small i1 w inside.last_column wide, (last_small j1 h inside.last_row high, (mask_small entry.1 is.1, tt))),
      ),
    )
  where
    first_small : (first last side : ℕ) → first ≤ last → last < side → side ≤ 2048 → first < 2 ^ 64
    first_small first last side h k l = omega (arith, h, k, l)

    last_small : (last side : ℕ) → last < side → side ≤ 2048 → last < 2 ^ 64
    last_small last side k l = omega (arith, k, l)

    mask_small : (mask : ℕ) → mask ≤ 65535 → mask < 2 ^ 64
    mask_small mask h = omega (arith, h)

says_entry : (size : Size) (entry : Rect × ℕ) → IsEntryValue size entry → IsEntry size entry (sorted (entry_json entry))
says_entry size entry is =
    let rect = entry.0 in record {
      says = (
        whole_json rect.i0 ∷ whole_json rect.j0 ∷ whole_json rect.i1 ∷ whole_json rect.j1 ∷ whole_json entry.1 ∷ [],
        refl,
        (refl, (refl, (refl, (refl, (refl, tt))))),
      );
      inside = is.0;
      mask = is.1;
    }

pub base_back : (size : Size) (rects : List (Rect × ℕ)) → All (λ (entry : Rect × ℕ). IsRectInside size entry.0) rects
    → All (λ (entry : Rect × ℕ). entry.1 ≤ 65535) rects → ReadsTo (base_json rects) (λ d. base_of size d ≡ Some rects)
unfolding base_json
base_back size rects inside masks =
    let all : All (IsEntryValue size) rects = λ k d lt. (inside k d lt, masks k d lt) in
    let entries = sorted (list_json (map entry_json rects)) in
    reads_sorted (base_json rects) (λ d. base_of size d ≡ Some rects)
    ((refl, refl), simple_list entry_json (IsEntryValue size) 6 (simple_entry size) rects all, tt)
    (base-from size (sorted (base_json rects)) rects
    (entries, one_key (codes "base") entries, array_list entry_json (IsEntryValue size) (IsEntry size) (says_entry size) rects all))

-- ---- classes

abbrev IsClass : PassabilityClass → Type 0
IsClass class = is_class class ≡ true

all_pass : {X : Type 0} (test : X → Bool) (xs : List X) → list_all test xs ≡ true → All (λ x. test x ≡ true) xs
all_pass {X} test [] h = All-nil (λ (x : X). test x ≡ true)
all_pass {X} test (x ∷ xs) h =
    let s = and_parts (test x) (list_all test xs) h in All-cons (λ (y : X). test y ≡ true) x xs s.0 (all_pass test xs s.1)

fits_clearance : (raw : ℤ) → is_clearance raw ≡ true → FitsSigned w32 raw
fits_clearance (pos n) h = let high = leb-true n 4194304 (and_parts (nat_le 0 n) (nat_le n 4194304) h).1 in omega (arith, high)
fits_clearance (negsuc n) h = absurd (cc)

class_parts : (class : PassabilityClass) → IsClass class → (is_class_name class.name ≡ true) × (is_clearance class.clearance ≡ true)
class_parts class is = and_parts (is_class_name class.name) (is_clearance class.clearance) is

simple_class : (class : PassabilityClass) → IsClass class → IsSimple (class_json class) 6
simple_class class is =
    let p = class_parts class is in
    ((refl, refl), text-name class.name p.0, ((refl, refl), text-fixed_text class.clearance (fits_clearance class.clearance p.1), tt))

-- what is read of a class
abbrev class_read : PassabilityClass → Data
class_read class = sorted (class_json class)

class_back : (class : PassabilityClass) → IsClass class → class_of (class_read class) ≡ Some class
class_back class is =
    ap (class_with (Some class.name)) (reads_back class.clearance (fits_clearance class.clearance (class_parts class is).1))
    ∙ ap (λ b. some_if b class) is

each_back : (classes : List PassabilityClass) → list_all is_class classes ≡ true → filter_map class_of (map class_read classes) ≡ classes
each_back [] h = refl
each_back (class ∷ classes) h =
    let s = and_parts (is_class class) (list_all is_class classes) h in
    ap (λ o. cons_option o (filter_map class_of (map class_read classes))) (class_back class s.0) ∙ ap (λ rest. class ∷ rest) (each_back classes s.1)

each_is_one : (classes : List PassabilityClass) → list_all is_class classes ≡ true → list_all (λ d. is_some (class_of d)) (map class_read classes) ≡ true
each_is_one [] h = refl
each_is_one (class ∷ classes) h =
    let s = and_parts (is_class class) (list_all is_class classes) h in
    and_from (is_some (class_of (class_read class))) (list_all (λ d. is_some (class_of d)) (map class_read classes)) (ap is_some (class_back class s.0)) (each_is_one classes s.1)

each_class : (classes : List PassabilityClass) → is_table classes ≡ true → list_all is_class classes ≡ true
each_class classes table =
    let few = nat_le 1 (length classes) && nat_le (length classes) 16 in
    (and_parts few (list_all is_class classes) (and_parts (few && list_all is_class classes) (are_distinct classes) table).0).1

are_classes-read : (classes : List PassabilityClass) → is_table classes ≡ true → are_classes (map class_read classes) ≡ true
are_classes-read classes table =
    let few = nat_le 1 (length classes) && nat_le (length classes) 16 in
    let items = map class_read classes in
    let outer = and_parts (few && list_all is_class classes) (are_distinct classes) table in
    let inner = and_parts few (list_all is_class classes) outer.0 in
    let every = list_all (λ d. is_some (class_of d)) items in
    let counted : (nat_le 1 (length items) && nat_le (length items) 16) ≡ true = ap (λ n. nat_le 1 n && nat_le n 16) (length-map classes class_read) ∙ inner.0 in
    and_from (nat_le 1 (length items) && nat_le (length items) 16 && every) (are_distinct (filter_map class_of items))
    (and_from (nat_le 1 (length items) && nat_le (length items) 16) every counted (each_is_one classes inner.1))
    (ap are_distinct (each_back classes inner.1) ∙ outer.1)

classes_back : (classes : List PassabilityClass) → is_table classes ≡ true → classes_of (sorted (list_json (map class_json classes))) ≡ Some classes
classes_back classes table =
    let items = map class_read classes in
    ap (λ listed. some_if (are_classes listed) (filter_map class_of listed)) (ap list_of (sorted_list class_json classes) ∙ list_of-items_of items)
    ∙ ap (λ b. some_if b (filter_map class_of items)) (are_classes-read classes table) ∙ ap Some (each_back classes (each_class classes table))

-- ---- the map line

-- the first two keys stand last
last_two_first : (k l m n : List ℕ) (d e f g : Data)
    → IsObject (k ∷ l ∷ m ∷ n ∷ []) (d ∷ e ∷ f ∷ g ∷ []) (object (member m f (member n g (member l e (member k d no_members)))))
last_two_first k l m n d e f g = record {
  members = member m f (member n g (member l e (member k d no_members)));
  is = refl;
  are = (
    member m f (member n g (member l e no_members)),
    no_members,
    refl,
    (member m f (member n g no_members), no_members, refl, (no_members, member n g no_members, refl, (no_members, no_members, refl, refl))),
  );
}

simple_map : (m : Map) → IsMapValue m → IsSimple (map_json m) 8
unfolding map_json
simple_map m is =
    let classes = simple_list class_json IsClass 6 simple_class m.classes (all_pass is_class m.classes (each_class m.classes is.classes)) in
    let w = limited m.size.w 2048 m.size.wide.few (omega arith) in let h = limited m.size.h 2048 m.size.high.few (omega arith) in (
      (refl, refl),
      limited m.version 3 is.is.newest (omega arith),
      ((refl, refl), (w, (h, tt)), ((refl, refl), limited m.callers 64 is.is.few_callers (omega arith), ((refl, refl), classes, tt))),
    )
  where
    limited : (n most : ℕ) → n ≤ most → most ≤ 2048 → n < 2 ^ 64
    limited n most h k = omega (arith, h, k)

says_map : (m : Map) → IsMapValue m → IsMapLine (record m { base = [] }) (sorted (map_json m))
unfolding map_json
says_map m is =
    let size = sorted (wholes_json (m.size.w ∷ m.size.h ∷ [])) in let classes = sorted (list_json (map class_json m.classes)) in record {
      version = whole_json m.version;
      size = size;
      callers = whole_json m.callers;
      classes = classes;
      keys = last_two_first (codes "version") (codes "size") (codes "callers") (codes "classes") (whole_json m.version) size (whole_json m.callers) classes;
      says_version = refl;
      oldest = is.is.oldest;
      newest = is.is.newest;
      says_size = (whole_json m.size.w ∷ whole_json m.size.h ∷ [], refl, (refl, (refl, tt)));
      says_callers = refl;
      some = is.is.some_caller;
      few = is.is.few_callers;
      says_classes = classes-is classes m.classes (classes_back m.classes is.classes);
      no_base = refl;
    }

pub map_back : (m : Map) → IsMapValue m → ReadsTo (map_json m) (λ d. map_of d ≡ Some (record m { base = [] }))
map_back m is =
    reads_sorted (map_json m) (λ d. map_of d ≡ Some (record m { base = [] })) (simple_map m is)
    (map-from (sorted (map_json m)) (record m { base = [] }) (says_map m is))
