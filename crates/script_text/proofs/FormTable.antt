-- The table of forms: no two forms have the same keys, so the form that is found is the one whose keys a value has.
use Rattle.std.proofs.Common.{◌≡◌, ℕ, zero, suc, ◌==◌, ◌&&◌, ◌||◌, List, [], ◌∷◌, map, get_or, Bool, true, false, not, cond, Option, Some, None, refl, ap, sym, subst, ◌∙◌}
use Rattle.std.specs.Prelude.{nat_le}
use Rattle.std.specs.List.{list_all, list_any, find}
use Rattle.std.proofs.lemmas.Bool.{and_parts}
use Rattle.std.proofs.lemmas.Bool.Decides.{Decides-eqb}
use Rattle.serde_json.specs.Data.{Data}
use Rattle.class_config.specs.Forms.{has_keys}
use Rattle.script_text.specs.declared.table.Form.{Form}
use Rattle.script_text.specs.declared.table.Form.TheVariants as form
use Rattle.script_text.specs.Table.{key_text, forms, keys_by, stands_in, texts_of, has_form, form_of}
use Rattle.script_text.proofs.Members.{is_other, are_distinct, open_keys, has_keys-other}
use Rattle.script_text.proofs.StrangeKeys.{found-passes}

-- ---- truth values

pub not_true : (b : Bool) → not b ≡ true → b ≡ false
not_true true e = absurd (cc)
not_true false e = refl

or_rest : (a b : Bool) → a ≡ false → (a || b) ≡ true → b ≡ true
or_rest true b e h = absurd (cc)
or_rest false b e h = h

-- ---- each form by its number

abbrev pub number_of : Form → ℕ
number_of form.Path = 0
number_of form.AddUnit = 1
number_of form.AddSquare = 2
number_of form.Remove = 3
number_of form.Move = 4
number_of form.Region = 5
number_of form.End = 6
number_of form.Base = 7
number_of form.Map = 8

abbrev form_at : ℕ → Form
form_at n = get_or forms n form.Path

back : (f : Form) → form_at (number_of f) ≡ f
back form.Path = refl
back form.AddUnit = refl
back form.AddSquare = refl
back form.Remove = refl
back form.Move = refl
back form.Region = refl
back form.End = refl
back form.Base = refl
back form.Map = refl

nth : (test : Form → Bool) (fs : List Form) (n : ℕ) (other : Form) → list_all test fs ≡ true → test other ≡ true → test (get_or fs n other) ≡ true
nth test [] n other all is = is
nth test (f ∷ fs) zero other all is = (and_parts (test f) (list_all test fs) all).0
nth test (f ∷ fs) (suc n) other all is = nth test fs n other (and_parts (test f) (list_all test fs) all).1 is

abbrev others : List Form
others = form.AddUnit ∷ form.AddSquare ∷ form.Remove ∷ form.Move ∷ form.Region ∷ form.End ∷ form.Base ∷ form.Map ∷ []

first_of : (test : Form → Bool) (f : Form) (fs : List Form) → list_all test (f ∷ fs) ≡ true → test f ≡ true
first_of test f fs all = (and_parts (test f) (list_all test fs) all).0

-- what holds of all forms holds of each
pub each : (test : Form → Bool) (f : Form) → list_all test forms ≡ true → test f ≡ true
each test f all = subst (λ g. test g ≡ true) (back f) (nth test forms (number_of f) form.Path all (first_of test form.Path others all))

-- ---- keys

-- one of the other keys is none of these
abbrev are_apart : List (List ℕ) → List (List ℕ) → Bool
are_apart keys others = list_any (λ k. is_other k keys && not (is_other k others)) others

any_found : {X : Type 0} (test : X → Bool) (xs : List X) → list_any test xs ≡ true → (x : X) × (test x ≡ true)
any_found test [] e = absurd (cc)
any_found {X} test (x ∷ xs) e = by_test (test x) refl (any_found test xs) e
  where
    by_test : (b : Bool) → test x ≡ b → (list_any test xs ≡ true → (y : X) × (test y ≡ true)) → (b || list_any test xs) ≡ true → (y : X) × (test y ≡ true)
    by_test true is rest h = (x, is)
    by_test false is rest h = rest h

-- a value has not the keys of both
lacks_apart : (keys others : List (List ℕ)) (d : Data) → are_distinct keys ≡ true → has_keys keys d ≡ true → are_apart keys others ≡ true → has_keys others d ≡ false
lacks_apart keys others d distinct has apart =
    let found = any_found (λ k. is_other k keys && not (is_other k others)) others apart in
    let parts = and_parts (is_other found.0 keys) (not (is_other found.0 others)) found.1 in
    let opened = open_keys keys d distinct has in
    has_keys-other keys others opened.values d found.0 opened.is parts.0 (not_true (is_other found.0 others) parts.1)

abbrev texts_by : Bool → Form → List (List ℕ)
texts_by masks f = map key_text (keys_by masks f)

-- the form is the other, or has not its keys
abbrev is_apart : Bool → Form → Form → Bool
is_apart masks f g = (number_of f == number_of g) || are_apart (texts_by masks f) (texts_by masks g)

all_distinct : (masks : Bool) → list_all (λ f. are_distinct (texts_by masks f)) forms ≡ true
all_distinct true = refl
all_distinct false = refl

all_apart : (masks : Bool) → list_all (λ f. list_all (is_apart masks f) forms) forms ≡ true
all_apart true = refl
all_apart false = refl

pub texts_distinct : (version : ℕ) (f : Form) → are_distinct (texts_of version f) ≡ true
texts_distinct version f = each (λ g. are_distinct (texts_by (nat_le 2 version) g)) f (all_distinct (nat_le 2 version))

apart : (masks : Bool) (f g : Form) → is_apart masks f g ≡ true
apart masks f g = each (is_apart masks f) g (each (λ h. list_all (is_apart masks h) forms) f (all_apart masks))

-- ---- the form of a value

pub form_keys : (version : ℕ) (d : Data) (f : Form) → has_form version d f ≡ true → has_keys (texts_of version f) d ≡ true
form_keys version d f has = (and_parts (stands_in version f) (has_keys (texts_of version f) d) has).1

-- a value has the keys of one form at most
only : (version : ℕ) (d : Data) (f g : Form) → has_form version d f ≡ true → has_form version d g ≡ true → f ≡ g
only version d f g has other = by_number (number_of f == number_of g) refl
  where
    by_number : (b : Bool) → (number_of f == number_of g) ≡ b → f ≡ g
    by_number true same = sym (back f) ∙ ap form_at ((Decides-eqb (number_of f) (number_of g)).0 same) ∙ back g
    by_number false differ =
        let far = or_rest (number_of f == number_of g) (are_apart (texts_of version f) (texts_of version g)) differ (apart (nat_le 2 version) f g) in
        let lacks = lacks_apart (texts_of version f) (texts_of version g) d (texts_distinct version f) (form_keys version d f has) far in
        let there = form_keys version d g other in absurd (cc)

none_pass : {X : Type 0} (test : X → Bool) (xs : List X) → find test xs ≡ None → list_all (λ x. not (test x)) xs ≡ true
none_pass test [] e = refl
none_pass {X} test (x ∷ xs) e = by_test (test x) (none_pass test xs) e
  where
    by_test : (b : Bool) → (find test xs ≡ None → list_all (λ y. not (test y)) xs ≡ true) → cond b (Some x) (find test xs) ≡ None
        → (not b && list_all (λ y. not (test y)) xs) ≡ true
    by_test true rest h = absurd (cc)
    by_test false rest h = rest h

-- where no form is found, the value has the keys of none
pub none_has : (version : ℕ) (d : Data) (f : Form) → form_of version d ≡ None → has_form version d f ≡ false
none_has version d f e =
    not_true (has_form version d f) (each (λ g. not (has_form version d g)) f (none_pass (has_form version d) forms e))

-- the value has the keys of the form that is found
pub some_has : (version : ℕ) (d : Data) (f : Form) → form_of version d ≡ Some f → has_form version d f ≡ true
some_has version d f e = found-passes (has_form version d) forms f e

-- and of no other
pub other_has : (version : ℕ) (d : Data) (f g : Form) → form_of version d ≡ Some g → (number_of f == number_of g) ≡ false → has_form version d f ≡ false
other_has version d f g e differ = by_test (has_form version d f) refl
  where
    by_test : (b : Bool) → has_form version d f ≡ b → b ≡ false
    by_test false is = refl
    by_test true is =
        let same : f ≡ g = only version d f g is (some_has version d g e) in
        let equal : (number_of f == number_of g) ≡ true = (Decides-eqb (number_of f) (number_of g)).1 (ap number_of same) in absurd (cc)

-- the form whose keys it has is found
pub form_found : (version : ℕ) (d : Data) (f : Form) → has_form version d f ≡ true → form_of version d ≡ Some f
form_found version d f has = by_form (form_of version d) refl
  where
    by_form : (o : Option Form) → form_of version d ≡ o → form_of version d ≡ Some f
    by_form None e = let none = none_has version d f e in absurd (cc)
    by_form (Some g) e = e ∙ ap Some (only version d g f (some_has version d g e) has)
