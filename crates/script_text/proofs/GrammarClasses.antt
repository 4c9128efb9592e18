-- The table of classes of the grammar is the one that is read of a value.
use Rattle.std.proofs.Common.{◌≡◌, ◌≢◌, ℕ, ◌≤◌, ◌&&◌, ◌||◌, List, [], ◌∷◌, length, Bool, true, false, not, Option, Some, None, is_some, option_map, option_and_then, ℤ, refl, ap, sym, subst, ◌∙◌, nat_le}
use Rattle.std.specs.Prelude.{All, bytes_eq, codes}
use Rattle.std.specs.List.{list_all, filter_map, cons_option}
use Rattle.std.proofs.lemmas.Bool.{and_parts, and_from, leb-true, le-leb, cond-true}
use Rattle.std.proofs.lemmas.List.Elements.{All-nil, All-cons, All-head, All-tail}
use Rattle.std.proofs.lemmas.Slice.Eq.{bytes_eq-Decides}
use Rattle.serde_json.specs.Data.{Data, null, boolean, number, string, array, object}
use Rattle.serde_json.specs.Find.{as_array, as_str, get}
use Rattle.fixed_point.specs.Text.{fixed_value, some_if}
use Rattle.class_config.specs.Forms.{has_keys, text_under, is_class_name}
use Rattle.class_config.specs.Classes.{has_name, are_distinct, is_clearance, clearance_under, class_with, class_of, list_of, are_classes, classes_of}
use Rattle.class_config.specs.declared.table.PassabilityClass.{PassabilityClass}
use Rattle.script_text.specs.Values.{array_items}
use Rattle.script_text.specs.Grammar.{SayEach, IsClassEntry, HaveOwnNames, IsClassTable}
use Rattle.script_text.proofs.GrammarValues.{then_some, if_some, some_if-some, array_items-is, array_items-from, say_length}
use Rattle.script_text.proofs.Members.{open_two, has_keys-object, stand-object}

-- ---- one class

abbrev class_keys : List (List ℕ)
class_keys = codes "name" ∷ codes "clearance" ∷ []

text-is : (d : Data) (text : List ℕ) → as_str d ≡ Some text → d ≡ string text
text-is null text e = absurd (cc)
text-is (boolean b) text e = absurd (cc)
text-is (number n) text e = absurd (cc)
text-is (string s) text e = let same : s ≡ text = cc in ap string same
text-is (array ds) text e = absurd (cc)
text-is (object ms) text e = absurd (cc)

-- the text under a key is that of the value there
text_under-is : (key : List ℕ) (d v : Data) (text : List ℕ) → get key d ≡ Some v → text_under key d ≡ Some text → v ≡ string text
text_under-is key d v text there e = text-is v text (sym (ap (option_and_then as_str) there) ∙ e)

text_under-from : (key : List ℕ) (d v : Data) (text : List ℕ) → get key d ≡ Some v → v ≡ string text → text_under key d ≡ Some text
text_under-from key d v text there e = ap (option_and_then as_str) there ∙ ap as_str e

-- a class is made of a name and a clearance within their limits
record IsMade (name : Option (List ℕ)) (raw : Option ℤ) (class : PassabilityClass) : Type 0 where
  named : name ≡ Some class.name
  wide : raw ≡ Some class.clearance
  is_name : is_class_name class.name ≡ true
  limits : is_clearance class.clearance ≡ true

class_with-is : (name : Option (List ℕ)) (raw : Option ℤ) (class : PassabilityClass) → class_with name raw ≡ Some class → IsMade name raw class
class_with-is None raw class e = absurd (cc)
class_with-is (Some name) None class e = absurd (cc)
class_with-is (Some name) (Some raw) class e =
    let made : PassabilityClass = record { name = name; clearance = raw } in
    let test = some_if-some (is_class_name name && is_clearance raw) made class e in
    let parts = and_parts (is_class_name name) (is_clearance raw) test.0 in
    let Made : PassabilityClass → Type 0 = λ c. IsMade (Some name) (Some raw) c in
    subst Made test.1 (record { named = refl; wide = refl; is_name = parts.0; limits = parts.1 })

class-is : (d : Data) (class : PassabilityClass) → class_of d ≡ Some class → IsClassEntry class d
class-is d class e =
    let test = if_some (has_keys class_keys d) (class_with (text_under (codes "name") d) (clearance_under d)) class e in
    let o = open_two (codes "name") (codes "clearance") d refl test.0 in
    let made = class_with-is (text_under (codes "name") d) (clearance_under d) class test.1 in
    let wide = then_some fixed_value (text_under (codes "clearance") d) class.clearance made.wide in
    record {
      name = o.v;
      clearance = o.w;
      keys = o.is;
      says_name = (text_under-is (codes "name") d o.v class.name o.first made.named, made.is_name);
      says_clearance = (wide.0, text_under-is (codes "clearance") d o.w wide.0 o.second wide.1, wide.2);
      limits = made.limits;
    }

class-from : (d : Data) (class : PassabilityClass) → IsClassEntry class d → class_of d ≡ Some class
class-from d class is =
    let values = is.name ∷ is.clearance ∷ [] in
    let at = stand-object class_keys values d refl is.keys in
    let named = text_under-from (codes "name") d is.name class.name at.0 is.says_name.0 in
    let wide : clearance_under d ≡ Some class.clearance =
    ap (option_and_then fixed_value) (text_under-from (codes "clearance") d is.clearance is.says_clearance.0 at.1.0 is.says_clearance.1) ∙ is.says_clearance.2 in
    cond-true (has_keys class_keys d) (class_with (text_under (codes "name") d) (clearance_under d)) None (has_keys-object class_keys values d refl is.keys)
    ∙ ap (λ o. class_with o (clearance_under d)) named ∙ ap (class_with (Some class.name)) wide
    ∙ ap (λ b. some_if b class) (and_from (is_class_name class.name) (is_clearance class.clearance) is.says_name.1 is.limits)

-- ---- each class

each-is : (items : List Data) → list_all (λ d. is_some (class_of d)) items ≡ true → SayEach IsClassEntry (filter_map class_of items) items
each-is [] each = tt
each-is (d ∷ items) each = by_first (class_of d) refl each (each-is items)
  where
    by_first : (found : Option PassabilityClass) → class_of d ≡ found → (is_some found && list_all (λ e. is_some (class_of e)) items) ≡ true
        → (list_all (λ e. is_some (class_of e)) items ≡ true → SayEach IsClassEntry (filter_map class_of items) items)
        → SayEach IsClassEntry (cons_option found (filter_map class_of items)) (d ∷ items)
    by_first None e h rest = absurd (cc)
    by_first (Some class) e h rest = (class-is d class e, rest h)

each_one : (classes : List PassabilityClass) (items : List Data) → SayEach IsClassEntry classes items → list_all (λ d. is_some (class_of d)) items ≡ true
each_one [] [] say = refl
each_one [] (d ∷ items) say = absurd say
each_one (class ∷ classes) [] say = absurd say
each_one (class ∷ classes) (d ∷ items) say =
    and_from (is_some (class_of d)) (list_all (λ e. is_some (class_of e)) items) (ap is_some (class-from d class say.0)) (each_one classes items say.1)

each-from : (classes : List PassabilityClass) (items : List Data) → SayEach IsClassEntry classes items → filter_map class_of items ≡ classes
each-from [] [] say = refl
each-from [] (d ∷ items) say = absurd say
each-from (class ∷ classes) [] say = absurd say
each-from (class ∷ classes) (d ∷ items) say =
    ap (λ o. cons_option o (filter_map class_of items)) (class-from d class say.0) ∙ ap (λ rest. class ∷ rest) (each-from classes items say.1)

-- ---- names

own-is : (name : List ℕ) (classes : List PassabilityClass) → not (has_name name classes) ≡ true → All (λ other. other.name ≢ name) classes
own-is name [] h = All-nil (λ (other : PassabilityClass). other.name ≢ name)
own-is name (class ∷ classes) h = by_test (bytes_eq class.name name) (bytes_eq-Decides class.name name).1 h (own-is name classes)
  where
    by_test : (same : Bool) → (class.name ≡ name → same ≡ true) → not (same || has_name name classes) ≡ true
        → (not (has_name name classes) ≡ true → All (λ other. other.name ≢ name) classes) → All (λ other. other.name ≢ name) (class ∷ classes)
    by_test true tells g rest = absurd (cc)
    by_test false tells g rest =
        All-cons (λ (other : PassabilityClass). other.name ≢ name) class classes (λ e. let t : false ≡ true = tells e in absurd (cc)) (rest g)

own-from : (name : List ℕ) (classes : List PassabilityClass) → All (λ other. other.name ≢ name) classes → not (has_name name classes) ≡ true
own-from name [] own = refl
own-from name (class ∷ classes) own =
    by_test (bytes_eq class.name name) (bytes_eq-Decides class.name name).0
    (own-from name classes (All-tail (λ (other : PassabilityClass). other.name ≢ name) class classes own))
  where
    by_test : (same : Bool) → (same ≡ true → class.name ≡ name) → not (has_name name classes) ≡ true → not (same || has_name name classes) ≡ true
    by_test true tells rest = absurd (All-head (λ (other : PassabilityClass). other.name ≢ name) class classes own (tells refl))
    by_test false tells rest = rest

names-is : (classes : List PassabilityClass) → are_distinct classes ≡ true → HaveOwnNames classes
names-is [] h = tt
names-is (class ∷ classes) h =
    let parts = and_parts (not (has_name class.name classes)) (are_distinct classes) h in
    (own-is class.name classes parts.0, names-is classes parts.1)

names-from : (classes : List PassabilityClass) → HaveOwnNames classes → are_distinct classes ≡ true
names-from [] own = refl
names-from (class ∷ classes) own =
    and_from (not (has_name class.name classes)) (are_distinct classes) (own-from class.name classes own.0) (names-from classes own.1)

-- ---- the table

pub classes-is : (d : Data) (classes : List PassabilityClass) → classes_of d ≡ Some classes → IsClassTable classes d
unfolding array_items
classes-is d classes e =
    let found = then_some (λ items. some_if (are_classes items) (filter_map class_of items)) (option_map list_of (as_array d)) classes e in
    let items = found.0 in
    let test = some_if-some (are_classes items) (filter_map class_of items) classes found.2 in
    let each = list_all (λ e. is_some (class_of e)) items in
    let last = and_parts (nat_le 1 (length items) && nat_le (length items) 16 && each) (are_distinct (filter_map class_of items)) test.0 in
    let more = and_parts (nat_le 1 (length items) && nat_le (length items) 16) each last.0 in
    let count = and_parts (nat_le 1 (length items)) (nat_le (length items) 16) more.0 in
    let Say : List PassabilityClass → Type 0 = λ all. SayEach IsClassEntry all items in
    let say : SayEach IsClassEntry classes items = subst Say test.1 (each-is items more.1) in
    let long = say_length IsClassEntry classes items say in record {
      says = (items, array_items-is d items found.1, say);
      some = subst (λ (n : ℕ). 1 ≤ n) long (leb-true 1 (length items) count.0);
      few = subst (λ (n : ℕ). n ≤ 16) long (leb-true (length items) 16 count.1);
      own_names = names-is classes (ap are_distinct (sym test.1) ∙ last.1);
    }

pub classes-from : (d : Data) (classes : List PassabilityClass) → IsClassTable classes d → classes_of d ≡ Some classes
unfolding array_items
classes-from d classes is =
    let items = is.says.0 in let say = is.says.2 in
    let long = say_length IsClassEntry classes items say in
    let given = each-from classes items say in
    let each = list_all (λ e. is_some (class_of e)) items in
    let some : nat_le 1 (length items) ≡ true = ap (nat_le 1) long ∙ le-leb 1 (length classes) is.some in
    let few : nat_le (length items) 16 ≡ true = ap (λ n. nat_le n 16) long ∙ le-leb (length classes) 16 is.few in
    let test : are_classes items ≡ true =
    and_from (nat_le 1 (length items) && nat_le (length items) 16 && each) (are_distinct (filter_map class_of items))
    (and_from (nat_le 1 (length items) && nat_le (length items) 16) each
    (and_from (nat_le 1 (length items)) (nat_le (length items) 16) some few) (each_one classes items say))
    (ap are_distinct given ∙ names-from classes is.own_names) in
    ap (option_and_then (λ items. some_if (are_classes items) (filter_map class_of items))) (array_items-from d items is.says.1)
    ∙ ap (λ b. some_if b (filter_map class_of items)) test ∙ ap Some given
