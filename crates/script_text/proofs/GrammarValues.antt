-- The values of the grammar are those that the forms give.
use Rattle.std.proofs.Common.{◌≡◌, ℕ, suc, ◌≤◌, ◌==◌, ◌&&◌, List, [], ◌∷◌, length, Bool, true, false, cond, Option, Some, None, option_map, option_and_then, ℤ, refl, ap, sym, subst, ◌∙◌, arith, nat_le, nat_lt, eq-eqb}
use Rattle.std.specs.Prelude.{⊤}
use Rattle.std.specs.Option.{option_map_or}
use Rattle.std.proofs.lemmas.Bool.{and_parts, leb-true, and_from, le-leb}
use Rattle.std.proofs.lemmas.Bool.Decides.{Decides-eqb, Decides-ltb}
use Rattle.class_config.proofs.ClassLists.{list_of-items_of}
use Rattle.serde_json.specs.Data.{Data, null, boolean, number, unsigned, negative, float, string, array, object, Items, no_items, item}
use Rattle.serde_json.specs.Find.{get, at}
use Rattle.serde_json.specs.View.{items_of}
use Rattle.fixed_point.specs.Text.{some_if}
use Rattle.class_config.specs.Forms.{is_class_name}
use Rattle.class_config.specs.Classes.{list_of}
use Rattle.script_text.specs.Values.{whole, whole_in, whole_below, obstruction_number, decimal, class_name, under, array_items, has_items, both}
use Rattle.script_text.specs.Forms.{each}
use Rattle.script_text.specs.Grammar.{IsWholeNumber, IsNumber, IsDecimal, IsName, SayEach, IsArray, IsCaller}

-- ---- options

pub then_some : {A B : Type 0} (f : A → Option B) (o : Option A) (y : B) → option_and_then f o ≡ Some y → (x : A) × (o ≡ Some x) × (f x ≡ Some y)
then_some f None y e = absurd (cc)
then_some f (Some x) y e = (x, refl, e)

pub map_some : {A B : Type 0} (f : A → B) (o : Option A) (y : B) → option_map f o ≡ Some y → (x : A) × (o ≡ Some x) × (f x ≡ y)
map_some f None y e = absurd (cc)
map_some f (Some x) y e = (x, refl, cc)

pub both_some : {A B : Type 0} (o : Option A) (p : Option B) (r : A × B) → both o p ≡ Some r → (x : A) × (y : B) × (o ≡ Some x) × (p ≡ Some y) × ((x, y) ≡ r)
both_some (Some x) (Some y) r e = (x, y, refl, refl, same _ _ e)
  where
    same : {T : Type 0} (a b : T) → Some a ≡ Some b → a ≡ b
    same a b e = cc
both_some (Some x) None r e = absurd (cc)
both_some None p r e = absurd (cc)

pub if_some : {A : Type 0} (b : Bool) (o : Option A) (y : A) → cond b o None ≡ Some y → (b ≡ true) × (o ≡ Some y)
if_some true o y e = (refl, e)
if_some false o y e = absurd (cc)

pub some_if-some : {A : Type 0} (b : Bool) (x y : A) → some_if b x ≡ Some y → (b ≡ true) × (x ≡ y)
some_if-some true x y e = (refl, cc)
some_if-some false x y e = absurd (cc)

pub under_some : {T : Type 0} (f : Data → Option T) (key : List ℕ) (d v : Data) (y : T) → get key d ≡ Some v → under f key d ≡ Some y → f v ≡ Some y
under_some f key d v y there e = sym (ap (option_and_then f) there) ∙ e

pub under_is : {T : Type 0} (f : Data → Option T) (key : List ℕ) (d v : Data) (y : T) → get key d ≡ Some v → f v ≡ Some y → under f key d ≡ Some y
under_is f key d v y there e = ap (option_and_then f) there ∙ e

-- ---- single values

pub whole-is : (d : Data) (n : ℕ) → whole d ≡ Some n → IsWholeNumber n d
whole-is null n e = absurd (cc)
whole-is (boolean b) n e = absurd (cc)
whole-is (number (unsigned m)) n e = let same : m ≡ n = cc in ap (λ k. number (unsigned k)) same
whole-is (number (negative z)) n e = absurd (cc)
whole-is (number (float x)) n e = absurd (cc)
whole-is (string s) n e = absurd (cc)
whole-is (array ds) n e = absurd (cc)
whole-is (object ms) n e = absurd (cc)

pub whole-from : (d : Data) (n : ℕ) → IsWholeNumber n d → whole d ≡ Some n
whole-from d n e = ap whole e

pub whole_in-is : (least most : ℕ) (d : Data) (n : ℕ) → whole_in least most d ≡ Some n → IsWholeNumber n d × (least ≤ n) × (n ≤ most)
unfolding whole_in
whole_in-is least most d n e =
    let found = then_some (λ m. some_if (nat_le least m && nat_le m most) m) (whole d) n e in
    let test = some_if-some (nat_le least found.0 && nat_le found.0 most) found.0 n found.2 in
    let parts = and_parts (nat_le least found.0) (nat_le found.0 most) test.0 in
    (whole-is d n (found.1 ∙ ap Some test.1), rw (sym test.1) (leb-true least found.0 parts.0), rw (sym test.1) (leb-true found.0 most parts.1))

pub whole_in-from : (least most : ℕ) (d : Data) (n : ℕ) → IsWholeNumber n d → least ≤ n → n ≤ most → whole_in least most d ≡ Some n
unfolding whole_in
whole_in-from least most d n e low high =
    ap (λ o. option_and_then (λ m. some_if (nat_le least m && nat_le m most) m) o) (whole-from d n e)
    ∙ ap (λ b. some_if b n) (and_from (nat_le least n) (nat_le n most) (le-leb least n low) (le-leb n most high))

pub caller-is : (callers : ℕ) (d : Data) (n : ℕ) → whole_below callers d ≡ Some n → IsCaller callers n d
unfolding whole_below
caller-is callers d n e =
    let found = then_some (λ m. some_if (nat_lt m callers) m) (whole d) n e in
    let test = some_if-some (nat_lt found.0 callers) found.0 n found.2 in
    (whole-is d n (found.1 ∙ ap Some test.1), rw (sym test.1) ((Decides-ltb found.0 callers).0 test.0))

pub caller-from : (callers : ℕ) (d : Data) (n : ℕ) → IsCaller callers n d → whole_below callers d ≡ Some n
unfolding whole_below
caller-from callers d n is =
    ap (λ o. option_and_then (λ m. some_if (nat_lt m callers) m) o) (whole-from d n is.0) ∙ ap (λ b. some_if b n) ((Decides-ltb n callers).1 is.1)

pub number-is : (d : Data) (n : ℕ) → obstruction_number d ≡ Some n → IsNumber n d
number-is d n e = let is = whole_in-is 0 4294967295 d n e in (is.0, is.2)

pub number-from : (d : Data) (n : ℕ) → IsNumber n d → obstruction_number d ≡ Some n
number-from d n is = whole_in-from 0 4294967295 d n is.0 (omega arith) is.1

pub decimal-is : (d : Data) (raw : ℤ) → decimal d ≡ Some raw → IsDecimal raw d
unfolding decimal
decimal-is null raw e = absurd (cc)
decimal-is (boolean b) raw e = absurd (cc)
decimal-is (number n) raw e = absurd (cc)
decimal-is (string text) raw e = (text, refl, e)
decimal-is (array ds) raw e = absurd (cc)
decimal-is (object ms) raw e = absurd (cc)

pub decimal-from : (d : Data) (raw : ℤ) → IsDecimal raw d → decimal d ≡ Some raw
unfolding decimal
decimal-from d raw is = ap decimal is.1 ∙ is.2

pub name-is : (d : Data) (name : List ℕ) → class_name d ≡ Some name → IsName name d
unfolding class_name
name-is null name e = absurd (cc)
name-is (boolean b) name e = absurd (cc)
name-is (number n) name e = absurd (cc)
name-is (string text) name e =
    let test = some_if-some (is_class_name text) text name e in (ap string test.1, ap is_class_name (sym test.1) ∙ test.0)
name-is (array ds) name e = absurd (cc)
name-is (object ms) name e = absurd (cc)

pub name-from : (d : Data) (name : List ℕ) → IsName name d → class_name d ≡ Some name
unfolding class_name
name-from d name is = ap class_name is.0 ∙ ap (λ b. some_if b name) is.1

-- ---- arrays

items_of-list_of : (ds : Items) → items_of (list_of ds) ≡ ds
items_of-list_of no_items = refl
items_of-list_of (item d ds) = ap (item d) (items_of-list_of ds)

pub array_items-is : (d : Data) (items : List Data) → array_items d ≡ Some items → d ≡ array (items_of items)
unfolding array_items
array_items-is null items e = absurd (cc)
array_items-is (boolean b) items e = absurd (cc)
array_items-is (number n) items e = absurd (cc)
array_items-is (string text) items e = absurd (cc)
array_items-is (array ds) items e = let same : list_of ds ≡ items = cc in ap array (sym (items_of-list_of ds) ∙ ap items_of same)
array_items-is (object ms) items e = absurd (cc)

pub array_items-from : (d : Data) (items : List Data) → d ≡ array (items_of items) → array_items d ≡ Some items
unfolding array_items
array_items-from d items e = ap array_items e ∙ ap Some (list_of-items_of items)

-- the things that stand in an array from a place on
abbrev pub ReadAt : {X : Type 0} → (Data → Option X) → ℕ → List X → Data → Type 0
ReadAt read i [] d = ⊤
ReadAt read i (x ∷ xs) d = (option_and_then read (at i d) ≡ Some x) × ReadAt read (suc i) xs d

earlier : {X : Type 0} (read : Data → Option X) (i : ℕ) (xs : List X) (d : Data) (ds : Items) → ReadAt read (suc i) xs (array (item d ds)) → ReadAt read i xs (array ds)
earlier read i [] d ds at_each = tt
earlier read i (x ∷ xs) d ds at_each = (at_each.0, earlier read (suc i) xs d ds at_each.1)

later : {X : Type 0} (read : Data → Option X) (i : ℕ) (xs : List X) (d : Data) (ds : Items) → ReadAt read i xs (array ds) → ReadAt read (suc i) xs (array (item d ds))
later read i [] d ds at_each = tt
later read i (x ∷ xs) d ds at_each = (at_each.0, later read (suc i) xs d ds at_each.1)

read_each : {X : Type 0} (read : Data → Option X) (Says : X → Data → Type 0) (tells : (d : Data) (x : X) → read d ≡ Some x → Says x d)
    (xs : List X) (ds : Items) → length (list_of ds) ≡ length xs → ReadAt read 0 xs (array ds) → SayEach Says xs (list_of ds)
read_each read Says tells [] no_items count at_each = tt
read_each read Says tells [] (item d ds) count at_each = absurd (omega (arith, count))
read_each read Says tells (x ∷ xs) no_items count at_each = absurd (omega (arith, count))
read_each read Says tells (x ∷ xs) (item d ds) count at_each =
    (tells d x at_each.0, read_each read Says tells xs ds (omega (arith, count)) (earlier read 0 xs d ds at_each.1))

pub array-is : {X : Type 0} (read : Data → Option X) (Says : X → Data → Type 0) (tells : (d : Data) (x : X) → read d ≡ Some x → Says x d)
    (xs : List X) (d : Data) → has_items (length xs) d ≡ true → ReadAt read 0 xs d → IsArray Says xs d
unfolding has_items array_items
array-is read Says tells xs null count at_each = absurd (cc)
array-is read Says tells xs (boolean b) count at_each = absurd (cc)
array-is read Says tells xs (number n) count at_each = absurd (cc)
array-is read Says tells xs (string text) count at_each = absurd (cc)
array-is read Says tells xs (array ds) count at_each =
    (list_of ds, ap array (sym (items_of-list_of ds)), read_each read Says tells xs ds ((Decides-eqb (length (list_of ds)) (length xs)).0 count) at_each)
array-is read Says tells xs (object ms) count at_each = absurd (cc)

-- an array of so many items has them
pub items_there : (d : Data) (count : ℕ) → has_items count d ≡ true → (items : List Data) × (array_items d ≡ Some items) × (length items ≡ count)
unfolding has_items
items_there d count has = by_items (array_items d) has
  where
    by_items : (o : Option (List Data)) → option_map_or (λ items. length items == count) o false ≡ true → (items : List Data) × (o ≡ Some items) × (length items ≡ count)
    by_items None h = absurd (cc)
    by_items (Some items) h = (items, refl, (Decides-eqb (length items) count).0 h)

-- an array of two items
pub two_there : (d a b : Data) → d ≡ array (items_of (a ∷ b ∷ [])) → has_items 2 d ≡ true
unfolding has_items
two_there d a b e = ap (λ found. option_map_or (λ items. length items == 2) found false) (array_items-from d (a ∷ b ∷ []) e)

pub say_length : {X : Type 0} (Says : X → Data → Type 0) (xs : List X) (ds : List Data) → SayEach Says xs ds → length ds ≡ length xs
say_length Says [] [] say = refl
say_length Says [] (d ∷ ds) say = absurd say
say_length Says (x ∷ xs) [] say = absurd say
say_length Says (x ∷ xs) (d ∷ ds) say = ap suc (say_length Says xs ds say.1)

said_each : {X : Type 0} (read : Data → Option X) (Says : X → Data → Type 0) (told : (d : Data) (x : X) → Says x d → read d ≡ Some x)
    (xs : List X) (ds : List Data) → SayEach Says xs ds → ReadAt read 0 xs (array (items_of ds))
said_each read Says told [] ds say = tt
said_each read Says told (x ∷ xs) [] say = absurd say
said_each read Says told (x ∷ xs) (d ∷ ds) say =
    (told d x say.0, later read 0 xs d (items_of ds) (said_each read Says told xs ds say.1))

pub has_items-from : {X : Type 0} (Says : X → Data → Type 0) (xs : List X) (d : Data) → IsArray Says xs d → has_items (length xs) d ≡ true
unfolding has_items
has_items-from Says xs d is =
    ap (λ found. option_map_or (λ items. length items == length xs) found false) (array_items-from d is.0 is.1)
    ∙ eq-eqb (length is.0) (length xs) (say_length Says xs is.0 is.2)

pub array-from : {X : Type 0} (read : Data → Option X) (Says : X → Data → Type 0) (told : (d : Data) (x : X) → Says x d → read d ≡ Some x)
    (xs : List X) (d : Data) → IsArray Says xs d → ReadAt read 0 xs d
array-from read Says told xs d is =
    let At : Data → Type 0 = λ e. ReadAt read 0 xs e in
    subst At (sym is.1) (said_each read Says told xs is.0 is.2)

-- ---- what each item gives

pub each-is : {X : Type 0} (read : Data → Option X) (Says : X → Data → Type 0) (tells : (d : Data) (x : X) → read d ≡ Some x → Says x d)
    (xs : List X) (ds : List Data) → each read ds ≡ Some xs → SayEach Says xs ds
each-is read Says tells [] [] e = tt
each-is read Says tells (x ∷ xs) [] e = absurd (cc)
each-is {X} read Says tells xs (d ∷ ds) e =
    let first = then_some (λ one. option_map (λ others. one ∷ others) (each read ds)) (read d) xs e in
    let rest = map_some (λ others. first.0 ∷ others) (each read ds) xs first.2 in
    let Say : List X → Type 0 = λ all. SayEach Says all (d ∷ ds) in
    subst Say rest.2 (tells d first.0 first.1, each-is read Says tells rest.0 ds rest.1)

pub each-from : {X : Type 0} (read : Data → Option X) (Says : X → Data → Type 0) (told : (d : Data) (x : X) → Says x d → read d ≡ Some x)
    (xs : List X) (ds : List Data) → SayEach Says xs ds → each read ds ≡ Some xs
each-from read Says told [] [] say = refl
each-from read Says told [] (d ∷ ds) say = absurd say
each-from read Says told (x ∷ xs) [] say = absurd say
each-from read Says told (x ∷ xs) (d ∷ ds) say =
    ap (λ o. option_and_then (λ one. option_map (λ others. one ∷ others) (each read ds)) o) (told d x say.0)
    ∙ ap (option_map (λ others. x ∷ others)) (each-from read Says told xs ds say.1)
