-- Lists of classes: what is found by name, and what is read of items.
use Rattle.std.proofs.Common.{◌≡◌, ◌≢◌, ℕ, suc, ◌+◌, ◌++◌, ◌&&◌, List, [], ◌∷◌, length, map, Bool, true, false, Option, Some, None, is_some, option_map, option_and_then, nat_le, cond, Result, Ok, Err, IfOk, IsErrOf, refl, ap, sym, ◌∙◌, ℤ}
use Rattle.std.specs.Prelude.{All, bytes_eq, codes, ◌↔◌, position}
use Rattle.std.specs.List.{list_all, filter_map, cons_option, position_from}
use Rattle.std.proofs.lemmas.Bool.{and_from, and_parts}
use Rattle.std.proofs.lemmas.Slice.Eq.{bytes_eq-Decides}
use Rattle.std.proofs.lemmas.List.Elements.{All-head, All-tail, All-cons, All-nil, filter_map-append}
use Rattle.std.proofs.lemmas.List.Folds.{list_all-append, list_all-map}
use Rattle.std.proofs.lemmas.List.{length-map}
use Rattle.std.proofs.lemmas.Iterator.Adapters.{position_from-zero}
use Rattle.serde_json.specs.Data.{Data}
use Rattle.serde_json.specs.Find.{as_array}
use Rattle.serde_json.specs.View.{view, items_of, items_view}
use Rattle.serde_json.specs.declared.value.Value.{Value}
use Rattle.class_config.specs.declared.table.PassabilityClass.{PassabilityClass}
use Rattle.class_config.specs.declared.table.ClassRefusal.{ClassRefusal}
use Rattle.class_config.specs.declared.table.ClassRefusal.TheVariants.{NotClasses}
use Rattle.fixed_point.specs.Text.{some_if}
use Rattle.class_config.specs.Forms.{has_keys, text_under, is_class_name}
use Rattle.class_config.specs.Classes.{is_class, is_clearance, class_of, class_with, clearance_under, are_distinct, is_table, list_of, are_classes, classes_of}

-- ---- tests

-- ---- finding by name

no_place : (name : List ℕ) (classes : List PassabilityClass) (i : ℕ) → is_some (position_from (λ class. bytes_eq class.name name) i classes) ≡ false
    → All (λ class. class.name ≢ name) classes
no_place name [] i none = All-nil (λ (class : PassabilityClass). class.name ≢ name)
no_place name (class ∷ classes) i none = by_test (bytes_eq class.name name) (bytes_eq-Decides class.name name).1 (no_place name classes (i + 1)) none
  where
    by_test : (same : Bool) → (class.name ≡ name → same ≡ true)
        → (is_some (position_from (λ other. bytes_eq other.name name) (i + 1) classes) ≡ false → All (λ other. other.name ≢ name) classes)
        → is_some (cond same (Some i) (position_from (λ other. bytes_eq other.name name) (i + 1) classes)) ≡ false → All (λ other. other.name ≢ name) (class ∷ classes)
    by_test true tells rest h = absurd (cc)
    by_test false tells rest h =
        All-cons (λ (other : PassabilityClass). other.name ≢ name) class classes (λ e. let t : false ≡ true = tells e in cc) (rest h)

no_place-from : (name : List ℕ) (classes : List PassabilityClass) (i : ℕ) → All (λ class. class.name ≢ name) classes
    → is_some (position_from (λ class. bytes_eq class.name name) i classes) ≡ false
no_place-from name [] i none = refl
no_place-from name (class ∷ classes) i none =
    by_test (bytes_eq class.name name) (bytes_eq-Decides class.name name).0
    (no_place-from name classes (i + 1) (All-tail (λ (other : PassabilityClass). other.name ≢ name) class classes none))
  where
    by_test : (same : Bool) → (same ≡ true → class.name ≡ name) → is_some (position_from (λ other. bytes_eq other.name name) (i + 1) classes) ≡ false
        → is_some (cond same (Some i) (position_from (λ other. bytes_eq other.name name) (i + 1) classes)) ≡ false
    by_test true tells rest = absurd (All-head (λ (other : PassabilityClass). other.name ≢ name) class classes none (tells refl))
    by_test false tells rest = rest

-- there is no place exactly where no class has the name
position-none : (name : List ℕ) (classes : List PassabilityClass)
    → (is_some (position (λ class. bytes_eq class.name name) classes) ≡ false) ↔ All (λ class. class.name ≢ name) classes
position-none name classes =
    let same = position_from-zero (λ (class : PassabilityClass). bytes_eq class.name name) classes in
    (λ none. no_place name classes 0 (ap is_some (sym same) ∙ none), λ none. ap is_some same ∙ no_place-from name classes 0 none)

-- ---- what is read of items

filter_map-map : {X Y Z : Type 0} (f : Y → Option Z) (h : X → Y) (xs : List X) → filter_map f (map h xs) ≡ filter_map (λ x. f (h x)) xs
filter_map-map f h [] = refl
filter_map-map f h (x ∷ xs) = ap (cons_option (f (h x))) (filter_map-map f h xs)

-- where each item gives something, there are as many
length-filter_map : {X Y : Type 0} (f : X → Option Y) (xs : List X) → list_all (λ x. is_some (f x)) xs ≡ true → length (filter_map f xs) ≡ length xs
length-filter_map f [] each = refl
length-filter_map {X} {Y} f (x ∷ xs) each = by_first (f x) (length-filter_map f xs) each
  where
    by_first : (o : Option Y) → (list_all (λ x. is_some (f x)) xs ≡ true → length (filter_map f xs) ≡ length xs) → (is_some o && list_all (λ x. is_some (f x)) xs) ≡ true → length (cons_option o (filter_map f xs)) ≡ suc (length xs)
    by_first None rest h = absurd (cc)
    by_first (Some y) rest h = ap suc (rest h)

-- what each item gives passes a test that whatever is given passes
list_all-filter_map : {X Y : Type 0} (p : Y → Bool) (f : X → Option Y) → ((x : X) (y : Y) → f x ≡ Some y → p y ≡ true) → (xs : List X) → list_all p (filter_map f xs) ≡ true
list_all-filter_map p f passes [] = refl
list_all-filter_map {X} {Y} p f passes (x ∷ xs) = by_first (f x) (passes x) (list_all-filter_map p f passes xs)
  where
    by_first : (o : Option Y) → ((y : Y) → o ≡ Some y → p y ≡ true) → list_all p (filter_map f xs) ≡ true → list_all p (cons_option o (filter_map f xs)) ≡ true
    by_first None given rest = rest
    by_first (Some y) given rest = and_from (p y) (list_all p (filter_map f xs)) (given y refl) rest

-- one item more
pub filter_map-more : {X Y : Type 0} (f : X → Option Y) (before now : List X) (ys : List Y) (x : X) (y : Y)
    → now ≡ before ++ x ∷ [] → ys ≡ filter_map f before → f x ≡ Some y → ys ++ y ∷ [] ≡ filter_map f now
filter_map-more f before now ys x y e is gives =
    let one : filter_map f (x ∷ []) ≡ y ∷ [] = ap (λ o. cons_option o []) gives in
    ap (λ l. l ++ y ∷ []) is ∙ ap (λ l. filter_map f before ++ l) (sym one) ∙ sym (filter_map-append f before (x ∷ [])) ∙ ap (filter_map f) (sym e)

-- and each still gives something
pub gives-more : {X Y : Type 0} (f : X → Option Y) (before now : List X) (x : X) (y : Y)
    → now ≡ before ++ x ∷ [] → list_all (λ x. is_some (f x)) before ≡ true → f x ≡ Some y → list_all (λ x. is_some (f x)) now ≡ true
gives-more f before now x y e each gives =
    ap (list_all (λ x. is_some (f x))) e ∙ list_all-append (λ x. is_some (f x)) before (x ∷ [])
    ∙ and_from (list_all (λ x. is_some (f x)) before) (is_some (f x) && true) each (ap (λ o. is_some o && true) gives)

-- ---- the table

class_from_test : (test : Bool) (made class : PassabilityClass) → is_class made ≡ test → some_if test made ≡ Some class → is_class class ≡ true
class_from_test true made class is e = let same : made ≡ class = cc in ap is_class (sym same) ∙ is
class_from_test false made class is e = absurd (cc)

class_from_parts : (name : Option (List ℕ)) (raw : Option ℤ) (class : PassabilityClass) → class_with name raw ≡ Some class → is_class class ≡ true
class_from_parts None raw class e = absurd (cc)
class_from_parts (Some name) None class e = absurd (cc)
class_from_parts (Some name) (Some raw) class e =
    class_from_test (is_class_name name && is_clearance raw) (record { name = name; clearance = raw }) class refl e

class_from_keys : (keys : Bool) (name : Option (List ℕ)) (raw : Option ℤ) (class : PassabilityClass) → cond keys (class_with name raw) None ≡ Some class → is_class class ≡ true
class_from_keys true name raw class e = class_from_parts name raw class e
class_from_keys false name raw class e = absurd (cc)

-- what is read of an item is a class that a map may have
is_class-class_of : (d : Data) (class : PassabilityClass) → class_of d ≡ Some class → is_class class ≡ true
is_class-class_of d class e =
    class_from_keys (has_keys (codes "name" ∷ codes "clearance" ∷ []) d) (text_under (codes "name") d) (clearance_under d) class e

-- what is read of classes is a table where the classes may be those of a map
is_table-filter_map : (items : List Data) → list_all (λ d. is_some (class_of d)) items ≡ true → is_table (filter_map class_of items) ≡ are_classes items
is_table-filter_map items each =
    let few = λ (n : ℕ). nat_le 1 n && nat_le n 16 in
    let classes = filter_map class_of items in
    let passed : list_all is_class classes ≡ list_all (λ d. is_some (class_of d)) items =
    list_all-filter_map is_class class_of is_class-class_of items ∙ sym each in
    ap (λ n. few n && list_all is_class classes && are_distinct classes) (length-filter_map class_of items each)
    ∙ ap (λ t. few (length items) && t && are_distinct classes) passed

-- the clearance of such a class is from 0 to 64 navcells
pub is_clearance-is_class : (class : PassabilityClass) → is_class class ≡ true → is_clearance class.clearance ≡ true
is_clearance-is_class class h = (and_parts (is_class_name class.name) (is_clearance class.clearance) h).1

pub list_of-items_of : (ds : List Data) → list_of (items_of ds) ≡ ds
list_of-items_of [] = refl
list_of-items_of (d ∷ ds) = ap (λ rest. d ∷ rest) (list_of-items_of ds)

-- what an array with these items describes
classes_of-array : (d : Data) (values : List Value) → Some (items_view values) ≡ as_array d
    → classes_of d ≡ some_if (are_classes (map view values)) (filter_map class_of (map view values))
classes_of-array d values e =
    ap (λ found. option_and_then (λ items. some_if (are_classes items) (filter_map class_of items)) (option_map list_of found)) (sym e)
    ∙ ap (λ items. some_if (are_classes items) (filter_map class_of items)) (list_of-items_of (map view values))

-- whether there are 1 to 16 items and each is a class
abbrev pub are_read : List Value → Bool
are_read values = nat_le 1 (length values) && nat_le (length values) 16 && list_all (λ value. is_some (class_of (view value))) values

are_read-map : (values : List Value) → are_read values ≡ (nat_le 1 (length (map view values)) && nat_le (length (map view values)) 16
    && list_all (λ d. is_some (class_of d)) (map view values))
are_read-map values =
    ap (λ n. nat_le 1 n && nat_le n 16 && list_all (λ value. is_some (class_of (view value))) values) (sym (length-map values view))
    ∙ ap (λ t. nat_le 1 (length (map view values)) && nat_le (length (map view values)) 16 && t) (sym (list_all-map (λ d. is_some (class_of d)) view values))

-- an array of other items describes no classes
pub no_classes-array : (d : Data) (values : List Value) → Some (items_view values) ≡ as_array d → are_read values ≡ false → classes_of d ≡ None
no_classes-array d values e fails =
    classes_of-array d values e ∙ ap (λ t. some_if (t && are_distinct (filter_map class_of (map view values))) (filter_map class_of (map view values)))
    (sym (are_read-map values) ∙ fails)

-- an array of classes describes them where they are a table
classes-array : (d : Data) (values : List Value) (classes : List PassabilityClass) → Some (items_view values) ≡ as_array d → are_read values ≡ true
    → classes ≡ filter_map (λ value. class_of (view value)) values → classes_of d ≡ some_if (is_table classes) classes
classes-array d values classes e holds read =
    let same : filter_map class_of (map view values) ≡ classes = filter_map-map class_of view values ∙ sym read in
    let few = nat_le 1 (length (map view values)) && nat_le (length (map view values)) 16 in
    let each = (and_parts few (list_all (λ d. is_some (class_of d)) (map view values)) (sym (are_read-map values) ∙ holds)).1 in
    classes_of-array d values e ∙ ap (λ t. some_if t (filter_map class_of (map view values))) (sym (is_table-filter_map (map view values) each))
    ∙ ap (λ found. some_if (is_table found) found) same

-- what the making of the table answers is what the reading answers
pub table_of-array : (d : Data) (values : List Value) (classes : List PassabilityClass) (result : Result (List PassabilityClass) ClassRefusal)
    → Some (items_view values) ≡ as_array d → are_read values ≡ true → classes ≡ filter_map (λ value. class_of (view value)) values
    → IfOk result (λ table. table ≡ classes) → (IsErrOf result NotClasses ↔ (is_table classes ≡ false))
    → IfOk result (λ table. classes_of d ≡ Some table) × (IsErrOf result NotClasses ↔ (classes_of d ≡ None))
table_of-array d values classes result e holds read ok refused =
    by_test (is_table classes) (classes-array d values classes e holds read) result ok refused
  where
    by_test : (test : Bool) → classes_of d ≡ some_if test classes → (made : Result (List PassabilityClass) ClassRefusal) → IfOk made (λ table. table ≡ classes)
        → (IsErrOf made NotClasses ↔ (test ≡ false)) → IfOk made (λ table. classes_of d ≡ Some table) × (IsErrOf made NotClasses ↔ (classes_of d ≡ None))
    by_test true is (Ok table) same both = (is ∙ ap Some (sym same), (λ f. absurd (cc), λ none. absurd (cc)))
    by_test true is (Err refusal) same both = (tt, (λ f. let t : true ≡ false = both.0 f in absurd (cc), λ none. absurd (cc)))
    by_test false is (Ok table) same both = let f : IsErrOf (Ok table) NotClasses = both.1 refl in absurd (cc)
    by_test false is (Err refusal) same both = (tt, (λ f. is, λ none. both.1 refl))

-- there is no place that was found exactly where no class has the name
pub none_found : (name : List ℕ) (classes : List PassabilityClass) (found : Option ℕ) → found ≡ position (λ class. bytes_eq class.name name) classes
    → (is_some found ≡ false) ↔ All (λ class. class.name ≢ name) classes
none_found name classes found e =
    let both = position-none name classes in (λ none. both.0 (ap is_some (sym e) ∙ none), λ none. ap is_some e ∙ both.1 none)
